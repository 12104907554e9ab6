-- What a well-formed plan says of the numbers in its nodes.
use Rattle.std.proofs.Common.{Bool, is_some, ◌≡◌, ℕ, ◌<◌, List, length, get_or, map, refl, sym, ◌∙◌, ap, subst, arith}
use Rattle.std.proofs.lemmas.Option.{slice_get-map, slice_get_within, slice_get-get_or}
use Rattle.std.proofs.lemmas.List.{length-map}
use Rattle.std.proofs.lemmas.Grind.{get_or_default_zero}
use Rattle.std.specs.Prelude.{slice_index}
use Rattle.std.specs.Prelude.{Option, Some, None, slice_get, option_map, All, Contains}
use Rattle.just_lang_types.specs.declared.node.Node.{Node}
use Rattle.just_eval_closure.specs.WellFormed.{IsWellFormed, round_at}
use Rattle.just_sched_history.specs.declared.plan_node.PlanNode.{PlanNode}
use Rattle.just_sched_history.specs.Nodes.{subsequents_at, subsequents_in, priors_at, priors_in, cache_in}
use Rattle.just_sched_history.specs.Cached.{is_cached}

-- the nodes of a plan without their work
abbrev pub shapes : List PlanNode → List Node
shapes nodes = map (λ x. x.node) nodes

-- what holds of all items holds of a contained one
pub contained : {A : Type 0} (P : A → Type 0) (xs : List A) (x : A) → All P xs → Contains xs x → P x
contained P xs x all at = subst P at.2 (all at.0 x at.1)

-- a list contains what stands at its places
pub contains_at : (xs : List ℕ) (j : ℕ) → j < length xs → Contains xs (slice_index xs j)
contains_at xs j lt = (j, lt, get_or_default_zero xs j (slice_index xs j) lt)

-- a number with a round is that of a node
round_within : (nodes : List Node) (n : ℕ) (r : Option ℕ) → round_at nodes n ≡ Some r → n < length nodes
round_within nodes n r e =
    elim (slice_get nodes n) as (λ o. slice_get nodes n ≡ o → option_map (λ (x : Node). x.round) o ≡ Some r → n < length nodes) [
      | Some x ↦ λ found is. slice_get_within nodes n x found
      | None ↦ λ found is. absurd (let same : None ≡ Some r = is in cc)
    ] refl e

-- what the code reads at a place of the nodes is what the plan says of it
pub subsequents_read : (nodes read : List PlanNode) (at : ℕ) (d : PlanNode) (xs : List ℕ) → read ≡ nodes → at < length nodes → xs ≡ (get_or read at d).node.subsequents → xs ≡ subsequents_at nodes at
subsequents_read nodes read at d xs same lt is = is ∙ (rw same (ap subsequents_in (sym (slice_get-get_or nodes at d lt))))

-- the same of the priors
pub priors_read : (nodes read : List PlanNode) (at : ℕ) (d : PlanNode) (xs : List ℕ) → read ≡ nodes → at < length nodes → xs ≡ (get_or read at d).node.priors → xs ≡ priors_at nodes at
priors_read nodes read at d xs same lt is = is ∙ (rw same (ap priors_in (sym (slice_get-get_or nodes at d lt))))

-- and of whether it has a cache
pub cached_read : (nodes read : List PlanNode) (at : ℕ) (d : PlanNode) (b : Bool) → read ≡ nodes → at < length nodes → b ≡ is_some (get_or read at d).cache → b ≡ is_cached nodes at
cached_read nodes read at d b same lt is = is ∙ (rw same (ap (λ o. is_some (cache_in o)) (sym (slice_get-get_or nodes at d lt))))

module _ (nodes : List PlanNode) (invocations : List ℕ) (well : IsWellFormed (shapes nodes) invocations) where
  -- a node that is there has its shape
  node_found : (n : ℕ) (x : PlanNode) → slice_get nodes n ≡ Some x → slice_get (shapes nodes) n ≡ Some x.node
  node_found n x found = slice_get-map (λ (y : PlanNode). y.node) nodes n ∙ ap (option_map (λ (y : PlanNode). y.node)) found

  -- there are as many shapes as nodes
  shapes_within : (n : ℕ) → n < length (shapes nodes) → n < length nodes
  shapes_within n h = let sized = length-map {A = PlanNode} {B = Node} in omega (arith, sized)

  -- a subsequent stands behind its node
  pub subsequent_behind : (n q : ℕ) → Contains (subsequents_at nodes n) q → (n < q) × (q < length nodes)
  subsequent_behind n q =
      elim (slice_get nodes n) as (λ o. slice_get nodes n ≡ o → Contains (subsequents_in o) q → (n < q) × (q < length nodes)) [
        | Some x ↦ λ found at.
            let is = contained (λ m. (n < m) × (round_at (shapes nodes) m ≡ Some (Some n))) x.node.subsequents q (well.subsequents_are n x.node (node_found n x found)) at in
            (is.0, shapes_within q (round_within (shapes nodes) q (Some n) is.1))
        | None ↦ λ found at. absurd (omega (arith, at.1))
      ] refl

  -- a prior stands before its node
  pub prior_before : (n q : ℕ) → Contains (priors_at nodes n) q → q < n
  prior_before n q =
      elim (slice_get nodes n) as (λ o. slice_get nodes n ≡ o → Contains (priors_in o) q → q < n) [
        | Some x ↦ λ found at.
            (contained (λ m. (m < n) × (round_at (shapes nodes) m ≡ Some x.node.round)) x.node.priors q (well.priors_are n x.node (node_found n x found)) at).0
        | None ↦ λ found at. absurd (omega (arith, at.1))
      ] refl

  -- a node with a prior is a node of the plan
  pub prior_within : (n q : ℕ) → Contains (priors_at nodes n) q → n < length nodes
  prior_within n q =
      elim (slice_get nodes n) as (λ o. slice_get nodes n ≡ o → Contains (priors_in o) q → n < length nodes) [
        | Some x ↦ λ found at. slice_get_within nodes n x found
        | None ↦ λ found at. absurd (omega (arith, at.1))
      ] refl

  -- so is an invocation
  pub invocation_within : (q : ℕ) → Contains invocations q → q < length nodes
  invocation_within q at = shapes_within q (round_within (shapes nodes) q None (contained (λ m. round_at (shapes nodes) m ≡ Some None) invocations q well.invocations_are at))

  -- a node with a subsequent is a node of the plan
  pub subsequent_within : (n q : ℕ) → Contains (subsequents_at nodes n) q → n < length nodes
  subsequent_within n q =
      elim (slice_get nodes n) as (λ o. slice_get nodes n ≡ o → Contains (subsequents_in o) q → n < length nodes) [
        | Some x ↦ λ found at. slice_get_within nodes n x found
        | None ↦ λ found at. absurd (omega (arith, at.1))
      ] refl
