-- The outcomes of the module's assignments.
use Rattle.std.proofs.Common.{◌≡◌, ℕ, List, Option, sym, subst}
use Rattle.std.specs.BTreeMap.{get}
use Rattle.just_lang_types.specs.declared.scope.Assignment.{Assignment}
use Rattle.just_eval_closure.specs.Numbers.{text_cmp}
use Rattle.just_lang_types.specs.Modules.{path_of, assignments_of}
use Rattle.just_eval_closure.specs.Scopes.{pairs_for, found_in}
use Rattle.just_eval_closure.specs.Values.{Valued}
use Rattle.just_eval.specs.Outcomes.{AreOutcomesOf}
use Rattle.just_eval.specs.Overrides.{override_of}
use Rattle.just_eval.specs.Partial.{outcomes_there}
use Rattle.just_eval.specs.Uses.{AreEnding}
use Rattle.just_eval.proofs.Final.{other_given}
use Rattle.just_eval.proofs.settled.outcomes.Goals as goal

pub outcomes_of-requires : goal.outcomes_of-requires
outcomes_of-requires c = subst (λ xs. AreEnding xs) (sym c.as_slice-assignments.ensures) c.requires

pub returns-clause-outcomes : goal.returns-clause-outcomes
returns-clause-outcomes c =
    let j = c.args.justfile.now in
    let environ = c.args.environ.now.pairs in
    let os = outcomes_there c.in_ok-outcomes.outcomes.items in
    let given : List ℕ → Option (List ℕ) = override_of c.args.overrides.now (path_of j) in
    let found : AreOutcomesOf given (found_in c.pairs_for-pairs.result.now environ) c.as_slice-assignments.result.now os =
    other_given c.as_slice-assignments.result.now (λ name. get text_cmp c.in_ok-overrides.overrides name) given (found_in c.pairs_for-pairs.result.now environ) c.in_ok-overrides.ensures os c.in_ok-outcomes.ensures.outcomes in
    subst (λ (xs : List Assignment). AreOutcomesOf given (found_in (pairs_for c.args.dotenv.now (path_of j)) environ) xs os) c.as_slice-assignments.ensures (subst (λ (ps : List (List ℕ × List ℕ)). AreOutcomesOf given (found_in ps environ) c.as_slice-assignments.result.now os) c.pairs_for-pairs.ensures found)

pub returns-clause-only : goal.returns-clause-only
returns-clause-only c =
    let j = c.args.justfile.now in
    let environ = c.args.environ.now.pairs in
    let given : List ℕ → Option (List ℕ) = override_of c.args.overrides.now (path_of j) in
    λ others of.
    let by_pairs : AreOutcomesOf given (found_in c.pairs_for-pairs.result.now environ) (assignments_of j) others = subst (λ (ps : List (List ℕ × List ℕ)). AreOutcomesOf given (found_in ps environ) (assignments_of j) others) (sym c.pairs_for-pairs.ensures) of in
    let by_slice : AreOutcomesOf given (found_in c.pairs_for-pairs.result.now environ) c.as_slice-assignments.result.now others = subst (λ (xs : List Assignment). AreOutcomesOf given (found_in c.pairs_for-pairs.result.now environ) xs others) (sym c.as_slice-assignments.ensures) by_pairs in
    c.in_ok-outcomes.ensures.only others (other_given c.as_slice-assignments.result.now given (λ name. get text_cmp c.in_ok-overrides.overrides name) (found_in c.pairs_for-pairs.result.now environ) (λ name. sym (c.in_ok-overrides.ensures name)) others by_slice)
