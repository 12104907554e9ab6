-- The next move of a book, node by node.
use Rattle.std.proofs.Common.{◌≡◌, ℕ, ◌+◌, ◌<◌, ◌||◌, inl, inr, Bool, true, false, true≢false, List, length, ◌≤◌, refl, sym, arith}
use Rattle.std.proofs.Math.Decide.{dec_lt}
use Rattle.just_sched_history.specs.declared.event.Event.{Event}
use Rattle.just_sched_history.specs.declared.plan_node.PlanNode.{PlanNode}
use Rattle.just_sched_history.specs.State.{has_taken, is_done, is_confirmed, IsReady, IsDueNext}
use Rattle.just_sched_history.specs.Turns.{OnlyWaits, OnlyWaitBefore}
use Rattle.just_eval_closure.specs.WellFormed.{IsWellFormed}
use Rattle.just_sched_history.proofs.Asking.{left_not_asked}
use Rattle.just_sched_history.proofs.Deciding.{wanted_inside}
use Rattle.just_sched_history.proofs.PlanLaws.{shapes}
use Rattle.just_sched_history.proofs.Below.{below_next}
use Rattle.just_sched_history.proofs.TablesLaws.{left_not_ready}

module _ (nodes : List PlanNode) (invocations : List ℕ) (h : List Event) where
  -- no node before the first that is left is ready or to be asked
  pub waits_none : (left : ℕ) → ((m : ℕ) → m < left → (has_taken h m || is_done h m) ≡ true) → ((n : ℕ) → has_taken h n ≡ true → is_confirmed nodes h n ≡ true) → OnlyWaitBefore nodes invocations h left false
  waits_none left before took = record {
    each = λ m lt. record { not_to_ask = left_not_asked nodes invocations h left before took m lt; waits = λ ready. absurd (left_not_ready nodes invocations h left before m lt ready) };
    one = λ e. absurd (true≢false (sym e));
    none = λ e m lt ready. left_not_ready nodes invocations h left before m lt ready;
  }

  -- a node more, which waits
  pub waits_more : (at : ℕ) (some : Bool) → OnlyWaitBefore nodes invocations h at some → IsReady nodes invocations h at × OnlyWaits nodes invocations h at → OnlyWaitBefore nodes invocations h (at + 1) true
  waits_more at some before here = record {
    each = below_next (OnlyWaits nodes invocations h) at before.each here.1;
    one = λ e. (at, omega arith, here.0);
    none = λ e. absurd (true≢false e);
  }

  -- a node more, which is neither ready nor to be asked
  pub waits_same : (at : ℕ) (some : Bool) → OnlyWaitBefore nodes invocations h at some → (IsDueNext nodes invocations h at → ⊥) → OnlyWaitBefore nodes invocations h (at + 1) some
  waits_same at some before idle = record {
    each = below_next (OnlyWaits nodes invocations h) at before.each (record { not_to_ask = λ a. idle (inr a); waits = λ ready. absurd (idle (inl ready)) });
    one = λ e. let r = before.one e in (r.0, omega (arith, r.1), r.2);
    none = λ e. below_next (λ m. IsReady nodes invocations h m → ⊥) at (before.none e) (λ ready. idle (inl ready));
  }

  -- nodes more, none of which is ready or to be asked
  pub waits_past : (at next : ℕ) (some : Bool) → at ≤ next → OnlyWaitBefore nodes invocations h at some → ((m : ℕ) → at ≤ m → m < next → IsDueNext nodes invocations h m → ⊥) → OnlyWaitBefore nodes invocations h next some
  waits_past at next some le before idle = record {
    each = λ m lt. elim (dec_lt m at) [
      | yes less ↦ before.each m less
      | no not_less ↦ record { not_to_ask = λ a. idle m (omega arith) lt (inr a); waits = λ ready. absurd (idle m (omega arith) lt (inl ready)) }
    ];
    one = λ e. let r = before.one e in (r.0, omega (arith, r.1, le), r.2);
    none = λ e m lt ready. elim (dec_lt m at) [
      | yes less ↦ before.none e m less ready
      | no not_less ↦ idle m (omega arith) lt (inl ready)
    ];
  }

  -- no node is ready or to be asked, where none waits
  pub none_due : (at : ℕ) → length nodes ≤ at → OnlyWaitBefore nodes invocations h at false → (m : ℕ) → m < length nodes → IsDueNext nodes invocations h m → ⊥
  none_due at past before m lt (inl ready) = before.none refl m (omega (arith, lt, past)) ready
  none_due at past before m lt (inr to_ask) = (before.each m (omega (arith, lt, past))).not_to_ask to_ask

  -- each ready node waits, and one does
  pub wait_all : ∥ IsWellFormed (shapes nodes) invocations ∥₁ → (at : ℕ) → length nodes ≤ at → OnlyWaitBefore nodes invocations h at true → ((m : ℕ) × (m < length nodes) × IsReady nodes invocations h m) × ((m : ℕ) → m < length nodes → OnlyWaits nodes invocations h m)
  wait_all well at past before =
      let one = before.one refl in
      ((one.0, wanted_inside nodes invocations well h one.0 one.2.wanted, one.2), λ m lt. before.each m (omega (arith, lt, past)))
