-- What is kept of a run's progress can be told by the flags, so that it holds plainly where it holds in a book.
use Rattle.std.proofs.Common.{◌≡◌, ℕ, ◌<◌, inr, ⊎_elim, Bool, true, false, List, [], length, None, sym, ◌∙◌, subst, arith}
use Rattle.std.proofs.Math.Bool.{Bool-set}
use Rattle.std.proofs.Math.Bridge.{le_prop}
use Rattle.std.proofs.Math.Logic.{∥∥₁_elim}
use Rattle.std.proofs.lemmas.Grind.{get_or_default_zero}
use Rattle.std.specs.Prelude.{slice_index, Contains}
use Rattle.just_sched_history.specs.declared.event.Event.{Event}
use Rattle.just_sched_history.specs.declared.plan_node.PlanNode.{PlanNode}
use Rattle.just_sched_history.specs.declared.tables.Tables.{Tables}
use Rattle.just_sched_history.specs.Nodes.{priors_at, subsequents_at, parallel_at}
use Rattle.just_sched_history.specs.Tables.{flag}
use Rattle.just_sched_history.specs.Led.{IsBefore, IsLed, place_of}
use Rattle.just_sched_history.specs.Progress.{IsPlaced, IsClosedBut, dependents_at}
use Rattle.just_sched_history.specs.Rows.{IsNoted}
use Rattle.just_sched_history.proofs.Closing.{among_or}
use Rattle.just_sched_history.proofs.PlanLaws.{contains_at}

module _ {P : Type 0} (holds : ∥ P ∥₁) where
  before_of : (f w : List Bool) (xs : List ℕ) (place : ℕ) → (P → IsBefore f w xs place) → IsBefore f w xs place
  before_of f w xs place get = (∥∥₁_elim holds le_prop (λ p. (get p).0), λ j lt. (∥∥₁_elim holds (Bool-set _ _) (λ p. ((get p).1 j lt).0), ∥∥₁_elim holds (Bool-set _ _) (λ p. ((get p).1 j lt).1)))

  led_of : (f w : List Bool) (together : Bool) (xs : List ℕ) → (P → IsLed f w together xs) → IsLed f w together xs
  led_of f w together xs get k next = ∥∥₁_elim holds (Bool-set _ _) (λ p. get p k next)

  contains_of : (xs : List ℕ) (x : ℕ) → (P → Contains xs x) → Contains xs x
  contains_of xs x get =
      ⊎_elim (λ (there : (j : ℕ) × (j < length xs) × (slice_index xs j ≡ x)). subst (λ i. Contains xs i) there.2 (contains_at xs there.0 there.1))
      (λ (never : (j : ℕ) → j < length xs → slice_index xs j ≡ x → ⊥).
      absurd (∥∥₁_elim holds (λ a. absurd a) (λ p. never (get p).0 (get p).1 (sym (get_or_default_zero xs (get p).0 x (get p).1) ∙ (get p).2))))
      (among_or xs x (length xs))

module _ (nodes : List PlanNode) (invocations : List ℕ) (h : List Event) (t : Tables) (noted : ∥ IsNoted nodes invocations h t ∥₁) where
  pub placed_of : IsPlaced nodes invocations t.progress
  placed_of =
      let p = t.progress in
      record {
        invoked = before_of noted p.finished.items p.wanted.items invocations p.invocations (λ n. n.placed.invoked);
        priors = λ m. before_of noted p.finished.items p.wanted.items (priors_at nodes m) (place_of p.priors.items m) (λ n. n.placed.priors m);
        subsequents = λ m. before_of noted p.finished.items p.wanted.items (subsequents_at nodes m) (place_of p.subsequents.items m) (λ n. n.placed.subsequents m);
        listed = λ k at. ∥∥₁_elim noted (Bool-set _ _) (λ n. n.placed.listed k at);
        room = ∥∥₁_elim noted le_prop (λ n. n.placed.room);
        dependents = λ m q at. contains_of noted (dependents_at p q) m (λ n. n.placed.dependents m q at);
        inside = λ m q at. ∥∥₁_elim noted le_prop (λ n. n.placed.inside m q at);
      }

  -- no node is pending
  led_at : (m : ℕ) → flag t.progress.wanted.items m ≡ true → flag t.progress.confirmed.items m ≡ true → IsNoted nodes invocations h t → IsLed t.progress.finished.items t.progress.wanted.items (parallel_at nodes m) (priors_at nodes m)
  led_at m up sure n =
      ⊎_elim (λ (listed : Contains t.progress.pending.items m). absurd (let at : Contains [] m = subst (λ (xs : List ℕ). Contains xs m) n.none listed in omega (arith, at.1)))
      (λ (led : IsLed t.progress.finished.items t.progress.wanted.items (parallel_at nodes m) (priors_at nodes m)). led)
      (n.closed.priors m up sure)

  pub closed_of : IsClosedBut nodes invocations t.progress None
  closed_of =
      let p = t.progress in
      record {
        finished = λ k lt left up all. ∥∥₁_elim noted (Bool-set _ _) (λ n. n.closed.finished k lt left up all);
        invoked = led_of noted p.finished.items p.wanted.items false invocations (λ n. n.closed.invoked);
        subsequents = λ m left up. led_of noted p.finished.items p.wanted.items (parallel_at nodes m) (subsequents_at nodes m) (λ n. n.closed.subsequents m left up);
        over = λ m e. ∥∥₁_elim noted (Bool-set _ _) (λ n. n.closed.over m e);
        together = λ m e all. led_of noted p.finished.items p.wanted.items true (subsequents_at nodes m) (λ n. n.closed.together m e all);
        priors = λ m up sure. inr (led_of noted p.finished.items p.wanted.items (parallel_at nodes m) (priors_at nodes m) (led_at m up sure));
      }
