-- The next invocation is refused, or has a key.
use Rattle.std.proofs.Common.{rules, ◌≡◌, map, length, drop, arith}
use Rattle.std.specs.List.{between}
use Rattle.std.proofs.lemmas.Grind.{common_steps}
use Rattle.std.proofs.lemmas.Slice.{between_to_end}
use Rattle.just_eval_words.proofs.Invoked.{next_refused, next_done}
use Rattle.just_eval_words.proofs.invocation.all_keys.Goals as goal

pub returns-in-Err-first_key-clause-refused : goal.returns-in-Err-first_key-clause-refused
returns-in-Err-first_key-clause-refused c some =
    let left : between c.words.at (length c.args.words.now) c.args.words.now ≡ drop c.words.at c.args.words.now = between_to_end c.args.words.now c.words.at (length c.args.words.now) (omega arith) in
    let refusal = c.in-Err-first_key.ensures.refused some in
    next_refused (map (λ m. m.now) c.args.modules.now) c.args.scopes.now c.args.root.now c.args.words.now c.words.keys.items c.words.at c.words.invariant c.words-test.true c.in-Err-first_key.refused (first_of (assumption refusal, cc (refusal, left), grind (arith, common_steps, refusal, left), search (rules, refusal, left)))

pub words-preserved : goal.words-preserved
words-preserved c =
    let left : between c.words.at (length c.args.words.now) c.args.words.now ≡ drop c.words.at c.args.words.now = between_to_end c.args.words.now c.words.at (length c.args.words.now) (omega arith) in
    let key = c.in-Ok-first_key.ensures.key in
    next_done (map (λ m. m.now) c.args.modules.now) c.args.scopes.now c.args.root.now c.args.words.now c.words.keys.items c.words.at c.words.invariant c.words-test.true c.in-Ok-first_key.next.0 c.in-Ok-first_key.next.1 c.push-in-words.new.self.items (first_of (assumption key, cc (key, left), grind (arith, common_steps, key, left), search (rules, key, left))) (first_of (assumption c.in_ok-push-2.ensures.items, search (rules, c.in_ok-push-2.ensures, c.push-in-words.ensures)))
