-- Who doesn't stand in the set of the nodes that may be due is neither ready nor to be asked, and the other way round.
use Rattle.std.proofs.Common.{◌≡◌, ℕ, ◌<◌, ◌≤◌, ◌⊎◌, ◌||◌, inl, inr, ⊎_elim, zero, suc, Bool, true, false, true≢false, List, [], length, refl, sym, ◌∙◌, subst, ap₂, arith}
use Rattle.std.proofs.Math.Logic.{∥∥₁_elim}
use Rattle.std.specs.Prelude.{slice_index, Contains}
use Rattle.just_eval_closure.specs.WellFormed.{IsWellFormed}
use Rattle.just_sched_history.specs.declared.event.Event.{Event}
use Rattle.just_sched_history.specs.declared.plan_node.PlanNode.{PlanNode}
use Rattle.just_sched_history.specs.declared.tables.Tables.{Tables}
use Rattle.just_sched_history.specs.Nodes.{priors_at}
use Rattle.just_sched_history.specs.Rows.{IsNoted}
use Rattle.just_sched_history.specs.Running.{EachNoIsDone}
use Rattle.just_sched_history.specs.Covered.{IsHeldUp, IsCovered, AreCoveredBy}
use Rattle.just_sched_history.specs.State.{has_taken, is_done, is_confirmed, IsWanted, IsDueNext}
use Rattle.just_sched_history.specs.Tables.{flag}
use Rattle.just_sched_history.proofs.Asking.{to_ask_by, to_ask_unsure}
use Rattle.just_sched_history.proofs.Deciding.{wanted_inside}
use Rattle.just_sched_history.proofs.Led.{flag_within, same_or}
use Rattle.just_sched_history.proofs.Placing.{of_contained}
use Rattle.just_sched_history.proofs.PlanLaws.{shapes, contains_at}
use Rattle.just_sched_history.proofs.TablesLaws.{finished_of, wanted_of, confirmed_of}
use Rattle.just_sched_history.proofs.Tests.{neither, unless}
use Rattle.just_sched_history.proofs.WantedLaws.{priors_below}

-- what isn't false is true
not_down : (b : Bool) → (b ≡ false → ⊥) → b ≡ true
not_down true never = refl
not_down false never = absurd (never refl)

-- a number below the next is below, or the same
below_or : (j n : ℕ) → j < suc n → (j < n) ⊎ (j ≡ n)
below_or j n lt = ⊎_elim (λ (same : j ≡ n). inr same) (λ (other : j ≡ n → ⊥). inl (omega (arith, lt, other))) (same_or j n)

-- one of the first n members of a list isn't flagged, or all are
last_down : (flags : List Bool) (xs : List ℕ) (n : ℕ) (b : Bool) → flag flags (slice_index xs n) ≡ b → ((j : ℕ) → j < n → flag flags (slice_index xs j) ≡ true) → ((j : ℕ) × (j < suc n) × (flag flags (slice_index xs j) ≡ false)) ⊎ ((j : ℕ) → j < suc n → flag flags (slice_index xs j) ≡ true)
last_down flags xs n true q all = inr (λ j lt. ⊎_elim (λ (less : j < n). all j less) (λ (same : j ≡ n). subst (λ i. flag flags (slice_index xs i) ≡ true) (sym same) q) (below_or j n lt))
last_down flags xs n false q all = inl (n, omega arith, q)

one_down : (flags : List Bool) (xs : List ℕ) (n : ℕ) → ((j : ℕ) × (j < n) × (flag flags (slice_index xs j) ≡ false)) ⊎ ((j : ℕ) → j < n → flag flags (slice_index xs j) ≡ true)
one_down flags xs zero = inr (λ j lt. absurd (omega (arith, lt)))
one_down flags xs (suc n) =
    ⊎_elim (λ (one : (j : ℕ) × (j < n) × (flag flags (slice_index xs j) ≡ false)). inl (one.0, omega (arith, one.1), one.2))
    (λ (all : (j : ℕ) → j < n → flag flags (slice_index xs j) ≡ true). last_down flags xs n (flag flags (slice_index xs n)) refl all)
    (one_down flags xs n)

module _ (nodes : List PlanNode) (invocations : List ℕ) (h : List Event) (t : Tables) (well : ∥ IsWellFormed (shapes nodes) invocations ∥₁) where
  -- a node that may go on neither took a job nor is done
  due_left : ((n : ℕ) → has_taken h n ≡ true → is_confirmed nodes h n ≡ true) → (m : ℕ) → IsDueNext nodes invocations h m → (has_taken h m || is_done h m) ≡ false
  due_left took m (inl ready) = ap₂ (λ a b. a || b) ready.not_taken ready.not_done
  due_left took m (inr to_ask) = ap₂ (λ a b. a || b) (unless (has_taken h m) (is_confirmed nodes h m) (took m) (to_ask_unsure nodes invocations h m to_ask)) to_ask.not_done

  due_wanted : (m : ℕ) → IsDueNext nodes invocations h m → IsWanted nodes invocations h m
  due_wanted m (inl ready) = ready.wanted
  due_wanted m (inr to_ask) = to_ask.wanted

  -- who doesn't stand in the set isn't due
  pub not_due : ∥ IsNoted nodes invocations h t ∥₁ → t.size ≡ length nodes → ((n : ℕ) → has_taken h n ≡ true → is_confirmed nodes h n ≡ true)
      → (m : ℕ) → flag t.due.flags.items m ≡ false → IsDueNext nodes invocations h m → ⊥
  not_due noted sized took m down due =
      let inside : m < length nodes = wanted_inside nodes invocations well h m (due_wanted m due) in
      let p = t.progress in
      let up = not_down (flag p.wanted.items m) (λ q. (wanted_of nodes invocations h t well noted sized m (omega (arith, inside, p.wanted_sized, t.progress_sized, sized))).1 q (due_wanted m due)) in
      ∥∥₁_elim noted (λ a. absurd a) (λ n.
      ⊎_elim (λ (listed : Contains p.pending.items m). let at : Contains [] m = subst (λ (xs : List ℕ). Contains xs m) n.none listed in omega (arith, at.1))
      (λ (covered : IsCovered nodes t.due.flags.items p.finished.items p.confirmed.items m).
      ⊎_elim (λ (there : flag t.due.flags.items m ≡ true). true≢false (sym there ∙ down))
      (λ (held : IsHeldUp nodes p.finished.items p.confirmed.items m).
      let below : held.node < m = priors_below nodes invocations well m held.node held.among in
      ⊎_elim (λ ready. (finished_of nodes invocations h t well noted sized held.node (omega (arith, below, inside, p.finished_sized, t.progress_sized, sized))).1 held.unfinished (ready.priors held.node held.among))
      (λ to_ask. true≢false (sym held.sure ∙ confirmed_of nodes invocations h t well noted sized m (omega (arith, inside, p.confirmed_sized, t.progress_sized, sized)) ∙ to_ask_unsure nodes invocations h m to_ask))
      due)
      covered)
      (n.covered m up (due_left took m due)))

  -- each wanted node is covered by a set, where those that don't stand in it aren't due
  module _ (each : EachNoIsDone h) (due : List Bool) (out : (m : ℕ) → flag due m ≡ false → IsDueNext nodes invocations h m → ⊥) (n : IsNoted nodes invocations h t) where
    covered_sure : (m : ℕ) → flag t.progress.wanted.items m ≡ true → (has_taken h m ≡ false) × (is_done h m ≡ false) → flag due m ≡ false → flag t.progress.confirmed.items m ≡ true → IsCovered nodes due t.progress.finished.items t.progress.confirmed.items m
    covered_sure m up left down sure =
        let p = t.progress in
        ⊎_elim
        (λ (one : (j : ℕ) × (j < length (priors_at nodes m)) × (flag p.finished.items (slice_index (priors_at nodes m) j) ≡ false)).
        inr (record { sure = sure; node = slice_index (priors_at nodes m) one.0; among = contains_at (priors_at nodes m) one.0 one.1; unfinished = one.2 }))
        (λ (all : (j : ℕ) → j < length (priors_at nodes m) → flag p.finished.items (slice_index (priors_at nodes m) j) ≡ true).
        absurd (out m down (inl (record {
          wanted = n.told.wanted m up;
          confirmed = n.told.confirmed m sure;
          priors = λ q at. n.told.finished q (of_contained (λ i. flag p.finished.items i ≡ true) (priors_at nodes m) all q at);
          not_taken = left.0;
          not_done = left.1;
        }))))
        (one_down p.finished.items (priors_at nodes m) (length (priors_at nodes m)))

    covered_at : (m : ℕ) (d c : Bool) → flag due m ≡ d → flag t.progress.confirmed.items m ≡ c → flag t.progress.wanted.items m ≡ true → (has_taken h m ≡ false) × (is_done h m ≡ false) → IsCovered nodes due t.progress.finished.items t.progress.confirmed.items m
    covered_at m true c down sure up left = inl down
    covered_at m false true down sure up left = covered_sure m up left down sure
    covered_at m false false down unsure up left =
        let p = t.progress in
        let inside : m < length p.confirmed.items = let lt : m < length p.wanted.items = flag_within p.wanted.items m up in omega (arith, lt, p.wanted_sized, p.confirmed_sized) in
        absurd (out m down (inr (to_ask_by nodes invocations h m each (n.told.wanted m up) (unless (is_confirmed nodes h m) (flag p.confirmed.items m) (n.heard m inside) unsure) left.1)))

    pub covered_again : AreCoveredBy nodes (λ m. has_taken h m || is_done h m) due t.progress
    covered_again m up left = inr (covered_at m (flag due m) (flag t.progress.confirmed.items m) refl refl up (neither (has_taken h m) (is_done h m) left))
