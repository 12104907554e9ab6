-- The node of whose subsequents a node is one: it names that node's round.
use Rattle.std.proofs.Common.{◌≡◌, ℕ, ◌+◌, ◌<◌, List, length, get_or, refl, sym, ◌∙◌, ap, arith}
use Rattle.std.proofs.Math.Bridge.{le_prop}
use Rattle.std.proofs.Math.Logic.{∥∥₁_elim}
use Rattle.std.proofs.lemmas.Option.{slice_get-map, slice_get-get_or}
use Rattle.std.specs.Coded.{coded_ℕ, coded_option, Coded-set}
use Rattle.std.specs.Prelude.{Option, Some, None, IfSome, slice_get, option_map, Contains}
use Rattle.just_lang_types.specs.declared.node.Node.{Node}
use Rattle.just_eval_closure.specs.WellFormed.{IsWellFormed, round_at}
use Rattle.just_sched_history.specs.declared.plan_node.PlanNode.{PlanNode}
use Rattle.just_sched_history.specs.Nodes.{subsequents_at, subsequents_in}
use Rattle.just_sched_history.proofs.PlanLaws.{shapes, contained}

-- the node that the code reads
pub node_read : (nodes read : List PlanNode) (at : ℕ) (d : PlanNode) → read ≡ nodes → at < length nodes → slice_get (shapes nodes) at ≡ Some (get_or read at d).node
node_read nodes read at d same lt =
    slice_get-map (λ x. x.node) nodes at ∙ ap (λ o. option_map (λ x. x.node) o) (slice_get-get_or nodes at d lt) ∙ ap (λ (xs : List PlanNode). Some (get_or xs at d).node) (sym same)

-- a subsequent has the round that its node names
round_of_subsequent : (nodes : List PlanNode) (invocations : List ℕ) → IsWellFormed (shapes nodes) invocations → (m q : ℕ) → Contains (subsequents_at nodes m) q → round_at (shapes nodes) q ≡ Some (Some m)
round_of_subsequent nodes invocations well m q =
    elim (slice_get nodes m) as (λ o. slice_get nodes m ≡ o → Contains (subsequents_in o) q → round_at (shapes nodes) q ≡ Some (Some m)) [
      | Some x ↦ λ found at.
          (contained (λ k. (m < k) × (round_at (shapes nodes) k ≡ Some (Some m))) x.node.subsequents q
          (well.subsequents_are m x.node (slice_get-map (λ y. y.node) nodes m ∙ ap (λ o. option_map (λ y. y.node) o) found)) at).1
      | None ↦ λ found at. absurd (omega (arith, at.1))
    ] refl

-- two rounds that are there are one
some_round : (a b : Option ℕ) → Some a ≡ Some b → a ≡ b
some_round a b e = cc

module _ (nodes : List PlanNode) (invocations : List ℕ) (well : ∥ IsWellFormed (shapes nodes) invocations ∥₁) (at : ℕ) (y : Node) (is : slice_get (shapes nodes) at ≡ Some y) where
  pub parent_is : (m : ℕ) → Contains (subsequents_at nodes m) at → y.round ≡ Some m
  parent_is m c =
      ∥∥₁_elim well (Coded-set (coded_option coded_ℕ) _ _)
      (λ w. some_round y.round (Some m) (sym (ap (λ o. option_map (λ (x : Node). x.round) o) is) ∙ round_of_subsequent nodes invocations w m at c))

  pub parent_below : (m : ℕ) → y.round ≡ Some m → m < at
  parent_below m e = ∥∥₁_elim well le_prop (λ w. w.rounds_are at m y is e)

-- a node's distance from the first, and the end behind that
abbrev pub distance : Option ℕ → ℕ
distance None = 0
distance (Some n) = n + 1

-- what comes before a node is nearer to the end
pub nearer : (o r : Option ℕ) (at : ℕ) → o ≡ Some at → IfSome r (λ p. p < at) → distance r < distance o
nearer None r at e less = absurd (let no_way : None ≡ Some at = e in cc)
nearer (Some n) None at e less = omega arith
nearer (Some n) (Some m) at e less = let same : n ≡ at = cc in omega (arith, less, same)

-- and below each number that the node is below
pub below_too : (r : Option ℕ) (at n : ℕ) → at < n → IfSome r (λ p. p < at) → IfSome r (λ p. p < n)
below_too None at n lt less = less
below_too (Some m) at n lt less = omega (arith, lt, less)
