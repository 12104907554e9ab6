-- The names in front of the last one lead to a module, and the last one to nothing there.
use Rattle.std.proofs.Common.{rules, ◌≡◌, [], ◌∷◌, ◌++◌, map, Ok, Err}
use Rattle.just_eval_words.specs.Names.{last_target}
use Rattle.just_eval_words.specs.Commands.{inner_at}
use Rattle.just_eval_words.proofs.Commanded.{named_unknown}
use Rattle.just_eval_words.proofs.command.named_target.Goals as goal

pub returns-in-Err-last_target-clause-refused : goal.returns-in-Err-last_target-clause-refused
returns-in-Err-last_target-clause-refused c = λ no.
    let ms = map (λ m. m.now) c.args.modules.now in
    let front = c.in-Some.front.now in
    let last = c.in-Some.last.now in
    let split : c.args.names.now ≡ front ++ last ∷ [] = search rules in
    let inner : inner_at ms front c.args.root.now ≡ Ok c.in-Ok.inside.now = search rules in
    let h : last_target ms c.in-Ok.inside.now last last ≡ Err c.in-Err-last_target.e = search rules in
    named_unknown ms c.args.names.now front last c.args.root.now c.in-Ok.inside.now c.in-Err-last_target.e split inner h
