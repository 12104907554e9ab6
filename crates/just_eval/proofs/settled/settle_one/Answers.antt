-- An outcome more.
use Rattle.std.proofs.Common.{arith, ◌≡◌, ◌<◌, ℕ, List, Option, None, false, is_some, length, get_or, ap, sym, ◌∙◌}
use Rattle.std.specs.BTreeMap.{get}
use Rattle.just_eval_closure.specs.Numbers.{text_cmp}
use Rattle.just_eval_closure.specs.Scopes.{found_in}
use Rattle.just_eval_closure.specs.Values.{value}
use Rattle.just_eval.specs.Outcomes.{assigned}
use Rattle.just_eval.specs.Partial.{meaning_so_far}
use Rattle.just_eval.proofs.Lists.{at_number, none_of}
use Rattle.just_eval.proofs.Settling.{settled_more}
use Rattle.just_eval.proofs.settled.settle_one.Goals as goal

pub returns-clause-settled : goal.returns-clause-settled
returns-clause-settled c =
    let all = c.args.given.now.assignments.now in
    let numbers = c.args.given.now.numbers.now in
    let given : List ℕ → Option (List ℕ) = λ name. get text_cmp c.args.given.now.overrides.now name in
    let env : List ℕ → Option (List ℕ) = found_in c.args.given.now.env.now.pairs.now c.args.given.now.env.now.environ.now.pairs in
    let old = c.args.outcomes.now.items in
    let at = c.args.at in
    let a = c.index-assignments-at.result in
    let o = c.in_ok-outcome.outcome in
    let slice : c.as_slice-so_far.result.now ≡ old = c.as_slice-so_far.ensures.value in
    let lt : c.args.at < length old = omega arith in
    let absent : is_some (get_or old at None) ≡ false = sym (c.is_there.ensures ∙ ap (λ os. is_some (get_or os at None)) slice) ∙ c.if-is_there.false in
    let is_value : o ≡ assigned (given a.name) (value (meaning_so_far numbers old) env a.value) = c.in_ok-outcome.ensures ∙ ap (λ os. assigned (given a.name) (value (meaning_so_far numbers os) env a.value)) slice in
    settled_more all given env numbers c.requires.numbers old at a o lt (at_number all at a c.requires.within c.index-assignments-at.is) (none_of (get_or old at None) absent) is_value c.requires.before c.requires.settled
