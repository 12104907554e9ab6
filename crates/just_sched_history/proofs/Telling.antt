-- Flags that say nothing false, and of which each is raised that is to be, say of each node whether it is finished or wanted.
use Rattle.std.proofs.Common.{◌≡◌, ℕ, ◌<◌, ⊎_elim, Bool, true, false, List, [], length, sym, ◌∙◌, subst, arith}
use Rattle.std.proofs.Math.Logic.{∥∥₁_elim}
use Rattle.std.proofs.Math.Bridge.{le_prop}
use Rattle.std.specs.Prelude.{slice_index, Contains, Some, None}
use Rattle.just_eval_closure.specs.WellFormed.{IsWellFormed}
use Rattle.just_sched_history.specs.declared.event.Event.{Event}
use Rattle.just_sched_history.specs.declared.plan_node.PlanNode.{PlanNode}
use Rattle.just_sched_history.specs.declared.progress.Progress.{Progress}
use Rattle.just_sched_history.specs.Nodes.{priors_at, subsequents_at, parallel_at}
use Rattle.just_sched_history.specs.State.{is_over_well, is_confirmed, MayComeNext, IsFinished, IsWanted, finished, invoked, prior, subsequent}
use Rattle.just_sched_history.specs.Tables.{flag, InRange, FlagsMean}
use Rattle.just_sched_history.specs.Led.{MayFollow, IsLed}
use Rattle.just_sched_history.specs.Progress.{IsClosedBut, IsTold}
use Rattle.just_sched_history.proofs.PlanLaws.{shapes, subsequent_behind, subsequent_within}
use Rattle.just_sched_history.proofs.WantedLaws.{leads_contains, leads_weaker, subsequents_within, priors_within, priors_inside, invocations_within}

module _ (nodes : List PlanNode) (invocations : List ℕ) (well : ∥ IsWellFormed (shapes nodes) invocations ∥₁) (h : List Event) (p : Progress)
    (over_sized : length p.over.items ≡ length nodes) (wanted_sized : length p.wanted.items ≡ length nodes)
    (told : IsTold nodes invocations h p) (heard : (k : ℕ) → k < length nodes → is_confirmed nodes h k ≡ true → flag p.confirmed.items k ≡ true)
    (closed : IsClosedBut nodes invocations p None) (none : p.pending.items ≡ []) where
  over_up : (m : ℕ) → m < length nodes → is_over_well h m ≡ true → flag p.over.items m ≡ true
  over_up m lt over = told.over m (omega (arith, lt, over_sized)) ∙ over

  no_next : (m : ℕ) → None ≡ Some m → ⊥
  no_next m e = cc

  below_subsequent : (m q : ℕ) → Contains (subsequents_at nodes m) q → q < length nodes
  below_subsequent m q c = ∥∥₁_elim well le_prop (λ w. (subsequent_behind nodes invocations w m q c).1)

  whole_finished : (k : ℕ) → k < length nodes → IsFinished nodes h k → flag p.finished.items k ≡ true
  whole_finished k lt (finished m over behind) = closed.finished m lt (no_next m) (over_up m lt over) (λ q c. whole_finished q (below_subsequent m q c) (behind q c))

  -- who may come next by the nodes that are finished may do so by the flags
  shown : (together : Bool) (xs : List ℕ) (k : ℕ) → InRange xs p.wanted.items → MayComeNext (IsFinished nodes h) together xs k → MayFollow p.finished.items together xs k
  shown together xs k within =
      leads_weaker (IsFinished nodes h) (λ q. flag p.finished.items q ≡ true) together xs k
      (λ j lt f. whole_finished (slice_index xs j) (let inside = within j lt in omega (arith, inside, wanted_sized)) f)

  whole_wanted : (k : ℕ) → IsWanted nodes invocations h k → flag p.wanted.items k ≡ true
  whole_wanted k (invoked n leads) = closed.invoked n (shown false invocations n (invocations_within nodes invocations well p.wanted.items wanted_sized) leads)
  whole_wanted k (prior m n wanted sure leads) =
      ⊎_elim (λ (listed : Contains p.pending.items m). absurd (let at : Contains [] m = subst (λ (xs : List ℕ). Contains xs m) none listed in omega (arith, at.1)))
      (λ (led : IsLed p.finished.items p.wanted.items (parallel_at nodes m) (priors_at nodes m)).
      led n (shown (parallel_at nodes m) (priors_at nodes m) n (priors_within nodes invocations well p.wanted.items m wanted_sized) leads))
      (closed.priors m (whole_wanted m wanted) (heard m (priors_inside nodes invocations well m n (leads_contains (IsFinished nodes h) (parallel_at nodes m) (priors_at nodes m) n leads)) sure))
  whole_wanted k (subsequent m n over leads) =
      let inside : m < length nodes = ∥∥₁_elim well le_prop (λ w. subsequent_within nodes invocations w m n (leads_contains (IsFinished nodes h) (parallel_at nodes m) (subsequents_at nodes m) n leads)) in
      closed.subsequents m (no_next m) (over_up m inside over) n (shown (parallel_at nodes m) (subsequents_at nodes m) n (subsequents_within nodes invocations well p.wanted.items m wanted_sized) leads)

  pub tells_finished : length p.finished.items ≡ length nodes → FlagsMean p.finished.items (IsFinished nodes h)
  tells_finished sized k lt = (told.finished k, λ down f. absurd (let clash : false ≡ true = sym down ∙ whole_finished k (omega (arith, lt, sized)) f in cc))

  pub tells_wanted : FlagsMean p.wanted.items (IsWanted nodes invocations h)
  tells_wanted k lt = (told.wanted k, λ down w. absurd (let clash : false ≡ true = sym down ∙ whole_wanted k w in cc))
