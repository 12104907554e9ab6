-- What is kept as the priors of the pending nodes are led till none is pending.
use Rattle.std.proofs.Common.{◌≡◌, ℕ, ◌<◌, ◌≤◌, inr, Bool, true, false, List, [], length, map, None, sym, ap, subst, arith}
use Rattle.std.specs.Prelude.{slice_index_or, Contains, vec_capacity}
use Rattle.just_sched_history.specs.declared.plan_node.PlanNode.{PlanNode}
use Rattle.just_sched_history.specs.declared.progress.Progress.{Progress}
use Rattle.just_sched_history.specs.Nodes.{priors_at, subsequents_at, parallel_at}
use Rattle.just_sched_history.specs.Tables.{flag}
use Rattle.just_sched_history.specs.Led.{down_count, IsBefore, IsLed, AreBefore, place_of}
use Rattle.just_sched_history.specs.Progress.{IsPlaced, IsClosedBut}
use Rattle.just_sched_history.proofs.Entering.{no_next}
use Rattle.just_sched_history.proofs.Led.{led_on}
use Rattle.just_sched_history.proofs.Placing.{before_both}

module _ (nodes : List PlanNode) (invocations : List ℕ) (p q : Progress) (finished_is : q.finished.items ≡ p.finished.items) (confirmed_is : q.confirmed.items ≡ p.confirmed.items) (none : q.pending.items ≡ [])
    (keeps : (k : ℕ) → flag p.wanted.items k ≡ true → flag q.wanted.items k ≡ true) where
  -- none is pending
  not_pending : (k : ℕ) → Contains q.pending.items k → ⊥
  not_pending k at = let here : Contains [] k = subst (λ (xs : List ℕ). Contains xs k) none at in omega (arith, here.1)

  before_over : (xs : List ℕ) (place : ℕ) → IsBefore p.finished.items p.wanted.items xs place → IsBefore q.finished.items q.wanted.items xs place
  before_over xs place before = before_both p.finished.items q.finished.items p.wanted.items q.wanted.items xs place (λ k up. subst (λ fs. flag fs k ≡ true) (sym finished_is) up) keeps before

  pub placed_cleared : q.subsequents ≡ p.subsequents → q.invocations ≡ p.invocations → q.dependents ≡ p.dependents
      → AreBefore (priors_at nodes) q.finished.items q.wanted.items q.priors.items → down_count q.wanted.items ≤ vec_capacity q.pending
      → IsPlaced nodes invocations p → IsPlaced nodes invocations q
  placed_cleared subsequents_are invoked_is dependents_are priors room placed = record {
    invoked = subst (λ n. IsBefore q.finished.items q.wanted.items invocations n) (sym invoked_is) (before_over invocations p.invocations placed.invoked);
    priors = priors;
    subsequents = subst (λ v. AreBefore (subsequents_at nodes) q.finished.items q.wanted.items v.items) (sym subsequents_are) (λ m. before_over (subsequents_at nodes m) (place_of p.subsequents.items m) (placed.subsequents m));
    listed = λ k at. absurd (not_pending k at);
    room = omega (arith, room, ap (λ (xs : List ℕ). length xs) none);
    dependents = subst (λ v. (m x : ℕ) → Contains (priors_at nodes m) x → Contains (slice_index_or (map (λ y. y.items) v.items) x []) m) (sym dependents_are) placed.dependents;
    inside = subst (λ v. (m x : ℕ) → Contains (slice_index_or (map (λ y. y.items) v.items) x []) m → m < length nodes) (sym dependents_are) placed.inside;
  }

  led_over : (together : Bool) (xs : List ℕ) → IsLed p.finished.items p.wanted.items together xs → IsLed q.finished.items q.wanted.items together xs
  led_over together xs l = led_on q.finished.items p.wanted.items q.wanted.items together xs keeps (subst (λ f. IsLed f p.wanted.items together xs) (sym finished_is) l)

  pub closed_cleared : q.over ≡ p.over → ((m : ℕ) → flag q.wanted.items m ≡ true → flag p.confirmed.items m ≡ true → IsLed q.finished.items q.wanted.items (parallel_at nodes m) (priors_at nodes m)) → IsClosedBut nodes invocations p None → IsClosedBut nodes invocations q None
  closed_cleared over_is led closed = record {
    finished = λ k lt left up all. subst (λ xs. flag xs k ≡ true) (sym finished_is) (closed.finished k lt left (subst (λ v. flag v.items k ≡ true) over_is up) (λ i c. subst (λ xs. flag xs i ≡ true) finished_is (all i c)));
    invoked = led_over false invocations closed.invoked;
    subsequents = λ m left up. led_over (parallel_at nodes m) (subsequents_at nodes m) (closed.subsequents m left (subst (λ v. flag v.items m ≡ true) over_is up));
    over = λ m e. absurd (no_next m e);
    together = λ m e all. absurd (no_next m e);
    priors = λ m up sure. inr (led m up (subst (λ xs. flag xs m ≡ true) confirmed_is sure));
  }
