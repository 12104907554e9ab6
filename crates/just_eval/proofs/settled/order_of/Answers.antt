-- The order is one of the assignments' uses, and has each assignment.
use Rattle.std.proofs.Common.{◌≡◌, ◌<◌, ℕ, List, length, subst, ◌∙◌}
use Rattle.std.specs.Prelude.{◌↔◌}
use Rattle.std.specs.List.{Contains}
use Rattle.just_lang_spots.specs.Graph.{IsOrder, LeadsToCycle}
use Rattle.just_eval.specs.Uses.{uses}
use Rattle.just_eval.proofs.Order.{graph_of, within_order, whole_order}
use Rattle.just_eval.proofs.settled.order_of.Goals as goal

abbrev Which : List (List ℕ) → List ℕ → Type 0
Which edges order = (v : ℕ) → Contains order v ↔ ((v < length edges) × (LeadsToCycle edges v → ⊥))

pub order-requires : goal.order-requires
order-requires c = graph_of c.args.assignments.now c.as_slice.result.now (c.as_slice.ensures.value ∙ c.in_ok-edges.ensures)

pub returns-clause-behind : goal.returns-clause-behind
returns-clause-behind c =
    let all = c.args.assignments.now in
    let order = c.in_ok-order.order.items in
    let is : c.as_slice.result.now ≡ uses all = c.as_slice.ensures.value ∙ c.in_ok-edges.ensures in
    subst (λ es. IsOrder es order) is c.in_ok-order.ensures.behind

pub returns-clause-within : goal.returns-clause-within
returns-clause-within c =
    let all = c.args.assignments.now in
    let order = c.in_ok-order.order.items in
    let is : c.as_slice.result.now ≡ uses all = c.as_slice.ensures.value ∙ c.in_ok-edges.ensures in
    within_order all order (subst (λ es. Which es order) is c.in_ok-order.ensures.which)

pub returns-clause-whole : goal.returns-clause-whole
returns-clause-whole c =
    let all = c.args.assignments.now in
    let order = c.in_ok-order.order.items in
    let is : c.as_slice.result.now ≡ uses all = c.as_slice.ensures.value ∙ c.in_ok-edges.ensures in
    whole_order all order c.requires.ending (subst (λ es. Which es order) is c.in_ok-order.ensures.which)
