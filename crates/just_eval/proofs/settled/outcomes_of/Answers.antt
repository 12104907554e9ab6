-- All outcomes are there; they are those of the assignments, and no others are.
use Rattle.std.proofs.Common.{◌≡◌, ◌<◌, ℕ, List, None, true, is_some, length, get_or, refl, sym, subst}
use Rattle.std.specs.BTreeMap.{get}
use Rattle.std.specs.List.{All}
use Rattle.just_eval_closure.specs.Numbers.{text_cmp}
use Rattle.just_lang_spots.specs.Graph.{IsOrder}
use Rattle.just_eval_closure.specs.Scopes.{found_in}
use Rattle.just_eval.specs.Outcomes.{AreOutcomesOf}
use Rattle.just_eval.specs.Partial.{AreThere, outcomes_there}
use Rattle.just_eval.specs.Uses.{uses}
use Rattle.just_eval.proofs.Final.{outcomes_are, there_in}
use Rattle.just_eval.proofs.Unique.{one_outcomes}
use Rattle.just_eval.proofs.settled.outcomes_of.Goals as goal

pub settle-requires-clause-within : goal.settle-requires-clause-within
settle-requires-clause-within c = subst (λ o. All (λ n. n < length c.args.assignments.now) o) (sym c.as_slice.ensures.value) c.in_ok-order.ensures.within

pub settle-requires-clause-behind : goal.settle-requires-clause-behind
settle-requires-clause-behind c = subst (λ o. IsOrder (uses c.args.assignments.now) o) (sym c.as_slice.ensures.value) c.in_ok-order.ensures.behind

pub returns-clause-outcomes : goal.returns-clause-outcomes
returns-clause-outcomes c =
    let os = c.in_ok-outcomes.outcomes.items in
    let there : AreThere os c.in_ok-order.order.items = subst (λ o. AreThere os o) c.as_slice.ensures.value c.in_ok-outcomes.ensures.there in
    outcomes_are c.args.assignments.now (λ name. get text_cmp c.args.overrides.now name) (λ name. get text_cmp c.args.overrides.now name) (found_in c.args.env.now.pairs.now c.args.env.now.environ.now.pairs) (λ name. refl) os c.in_ok-outcomes.ensures.size c.in_ok-outcomes.ensures.settled
    (λ n lt. there_in c.in_ok-order.order.items os n there (c.in_ok-order.ensures.whole n lt))

pub returns-clause-only : goal.returns-clause-only
returns-clause-only c =
    let os = c.in_ok-outcomes.outcomes.items in
    let all = c.args.assignments.now in
    let there : AreThere os c.in_ok-order.order.items = subst (λ o. AreThere os o) c.as_slice.ensures.value c.in_ok-outcomes.ensures.there in
    let are : AreOutcomesOf (λ name. get text_cmp c.args.overrides.now name) (found_in c.args.env.now.pairs.now c.args.env.now.environ.now.pairs) all (outcomes_there os) =
    outcomes_are all (λ name. get text_cmp c.args.overrides.now name) (λ name. get text_cmp c.args.overrides.now name) (found_in c.args.env.now.pairs.now c.args.env.now.environ.now.pairs) (λ name. refl) os c.in_ok-outcomes.ensures.size c.in_ok-outcomes.ensures.settled
    (λ n lt. there_in c.in_ok-order.order.items os n there (c.in_ok-order.ensures.whole n lt)) in
    λ others of. one_outcomes all (λ name. get text_cmp c.args.overrides.now name) (found_in c.args.env.now.pairs.now c.args.env.now.environ.now.pairs) others (outcomes_there os) of are c.in_ok-order.order.items c.in_ok-order.ensures.behind c.in_ok-order.ensures.within c.in_ok-order.ensures.whole
