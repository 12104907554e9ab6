-- Laws of the flags of wanted nodes.
use Rattle.std.proofs.Common.{◌≡◌, ℕ, ◌<◌, inl, inr, ⊎_elim, Bool, true, List, length, get_or, sym, ap, subst, arith}
use Rattle.std.proofs.Math.Logic.{∥∥₁_elim}
use Rattle.std.proofs.Math.Bridge.{le_prop}
use Rattle.std.proofs.lemmas.Option.{slice_get-get_or}
use Rattle.std.specs.Prelude.{slice_index, Contains}
use Rattle.just_eval_closure.specs.WellFormed.{IsWellFormed}
use Rattle.just_sched_history.specs.declared.plan_node.PlanNode.{PlanNode}
use Rattle.just_sched_history.specs.Nodes.{subsequents_at, priors_at, parallel_at, parallel_in, prompt_at, prompt_in, cache_at, cache_in}
use Rattle.just_sched_history.specs.State.{MayComeNext}
use Rattle.just_sched_history.specs.Tables.{InRange}
use Rattle.just_sched_history.proofs.PlanLaws.{shapes, subsequent_behind, prior_before, prior_within, invocation_within, contains_at}

-- who leads a list stands in it
pub leads_contains : (F : ℕ → Type 0) (together : Bool) (xs : List ℕ) (k : ℕ) → MayComeNext F together xs k → Contains xs k
leads_contains F together xs k leads = subst (λ q. Contains xs q) leads.2 (contains_at xs leads.0 leads.1)

-- who leads by one measure leads by a weaker one
pub leads_weaker : (F G : ℕ → Type 0) (together : Bool) (xs : List ℕ) (k : ℕ) → ((j : ℕ) → j < length xs → F (slice_index xs j) → G (slice_index xs j)) → MayComeNext F together xs k → MayComeNext G together xs k
leads_weaker F G together xs k weaker leads =
    (leads.0, leads.1, leads.2, ⊎_elim (λ (t : together ≡ true). inl t) (λ (each : (j : ℕ) → j < leads.0 → F (slice_index xs j)). inr (λ j lt. weaker j (omega (arith, leads.1)) (each j lt))) leads.3)

-- what the code reads of a node is what the plan says of it
pub parallel_read : (nodes read : List PlanNode) (at : ℕ) (d : PlanNode) → read ≡ nodes → at < length nodes → (get_or read at d).parallel ≡ parallel_at nodes at
parallel_read nodes read at d same lt = rw same (ap parallel_in (sym (slice_get-get_or nodes at d lt)))

pub prompt_read : (nodes read : List PlanNode) (at : ℕ) (d : PlanNode) → read ≡ nodes → at < length nodes → (get_or read at d).prompt ≡ prompt_at nodes at
prompt_read nodes read at d same lt = rw same (ap prompt_in (sym (slice_get-get_or nodes at d lt)))

pub cache_read : (nodes read : List PlanNode) (at : ℕ) (d : PlanNode) → read ≡ nodes → at < length nodes → (get_or read at d).cache ≡ cache_at nodes at
cache_read nodes read at d same lt = rw same (ap cache_in (sym (slice_get-get_or nodes at d lt)))

module _ (nodes : List PlanNode) (invocations : List ℕ) (well : ∥ IsWellFormed (shapes nodes) invocations ∥₁) where
  pub subsequents_within : (flags : List Bool) (at : ℕ) → length flags ≡ length nodes → InRange (subsequents_at nodes at) flags
  subsequents_within flags at sized j lt =
      let inside : slice_index (subsequents_at nodes at) j < length nodes =
      ∥∥₁_elim well le_prop (λ w. (subsequent_behind nodes invocations w at (slice_index (subsequents_at nodes at) j) (contains_at (subsequents_at nodes at) j lt)).1) in
      omega arith

  pub priors_below : (at q : ℕ) → Contains (priors_at nodes at) q → (q < at)
  priors_below at q c = ∥∥₁_elim well le_prop (λ w. prior_before nodes invocations w at q c)

  pub priors_inside : (at q : ℕ) → Contains (priors_at nodes at) q → (at < length nodes)
  priors_inside at q c = ∥∥₁_elim well le_prop (λ w. prior_within nodes invocations w at q c)

  pub priors_within : (flags : List Bool) (at : ℕ) → length flags ≡ length nodes → InRange (priors_at nodes at) flags
  priors_within flags at sized j lt =
      let c = contains_at (priors_at nodes at) j lt in
      let below : slice_index (priors_at nodes at) j < at = priors_below at (slice_index (priors_at nodes at) j) c in
      let inside : at < length nodes = priors_inside at (slice_index (priors_at nodes at) j) c in
      omega arith

  pub invocations_within : (flags : List Bool) → length flags ≡ length nodes → InRange invocations flags
  invocations_within flags sized j lt =
      let inside : slice_index invocations j < length nodes = ∥∥₁_elim well le_prop (λ w. invocation_within nodes invocations w (slice_index invocations j) (contains_at invocations j lt)) in
      omega arith
