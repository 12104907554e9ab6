-- What is known of the places, the lists and the flags stays so as more nodes are wanted and finished.
use Rattle.std.proofs.Common.{◌≡◌, ℕ, ◌<◌, ◌≤◌, ◌⊎◌, ⊎_elim, not, Bool, true, false, List, [], length, map, sym, ◌∙◌, ap, subst, arith}
use Rattle.std.proofs.lemmas.Grind.{get_or_default_zero}
use Rattle.std.proofs.lemmas.List.Sums.{count_by-le-length}
use Rattle.std.specs.Prelude.{slice_index, slice_index_or, Contains, vec_capacity}
use Rattle.just_sched_history.specs.declared.event.Event.{Event}
use Rattle.just_sched_history.specs.declared.plan_node.PlanNode.{PlanNode}
use Rattle.just_sched_history.specs.declared.progress.Progress.{Progress}
use Rattle.just_sched_history.specs.Nodes.{priors_at, subsequents_at, parallel_at}
use Rattle.just_sched_history.specs.State.{IsFinished, subsequent}
use Rattle.just_sched_history.specs.Tables.{flag}
use Rattle.just_sched_history.specs.Led.{IsRaised, IsBefore, MayFollow, AreUp, AreBefore, place_of}
use Rattle.just_sched_history.specs.Progress.{dependents_at, IsPlaced, IsTold}
use Rattle.just_sched_history.proofs.PlanLaws.{contains_at}
use Rattle.just_sched_history.proofs.PriorsLed.{follow_any}
use Rattle.just_sched_history.proofs.WantedLaws.{leads_weaker}

-- what is before a place stays so, as more is finished and wanted
pub before_both : (f g w v : List Bool) (xs : List ℕ) (place : ℕ) → ((k : ℕ) → flag f k ≡ true → flag g k ≡ true) → ((k : ℕ) → flag w k ≡ true → flag v k ≡ true) → IsBefore f w xs place → IsBefore g v xs place
before_both f g w v xs place finishes wants before = (before.0, λ j lt. (finishes (slice_index xs j) (before.1 j lt).0, wants (slice_index xs j) (before.1 j lt).1))

-- those that are listed are flagged
pub listed_on : (old new : List Bool) (before after : List ℕ) → IsRaised old new before after → AreUp old before → AreUp new after
listed_on old new before after raised up k at = ⊎_elim (λ (was : Contains before k). raised.keeps k (up k was)) (λ (now : flag new k ≡ true). now) (raised.up k at)

-- the dependents and the room stay as they are; the rest is given
pub placed_on : (nodes : List PlanNode) (invocations : List ℕ) (p q : Progress) → q.dependents ≡ p.dependents → vec_capacity q.pending ≡ vec_capacity p.pending
    → IsRaised p.wanted.items q.wanted.items p.pending.items q.pending.items
    → IsBefore q.finished.items q.wanted.items invocations q.invocations
    → AreBefore (priors_at nodes) q.finished.items q.wanted.items q.priors.items
    → AreBefore (subsequents_at nodes) q.finished.items q.wanted.items q.subsequents.items
    → IsPlaced nodes invocations p → IsPlaced nodes invocations q
placed_on nodes invocations p q same capacity raised invoked priors subsequents placed = record {
  invoked = invoked;
  priors = priors;
  subsequents = subsequents;
  listed = listed_on p.wanted.items q.wanted.items p.pending.items q.pending.items raised placed.listed;
  room = omega (arith, raised.counted, placed.room, capacity);
  dependents = subst (λ v. (m x : ℕ) → Contains (priors_at nodes m) x → Contains (slice_index_or (map (λ y. y.items) v.items) x []) m) (sym same) placed.dependents;
  inside = subst (λ v. (m x : ℕ) → Contains (slice_index_or (map (λ y. y.items) v.items) x []) m → m < length nodes) (sym same) placed.inside;
}

-- what holds at each place of a list holds of each that it contains
pub of_contained : (F : ℕ → Type 0) (xs : List ℕ) → ((j : ℕ) → j < length xs → F (slice_index xs j)) → (q : ℕ) → Contains xs q → F q
of_contained F xs each q c = subst F (sym (get_or_default_zero xs c.0 q c.1) ∙ c.2) (each c.0 c.1)

-- of a list whose place is its end all are finished
pub all_through : (f w : List Bool) (xs : List ℕ) (place : ℕ) → IsBefore f w xs place → place ≡ length xs → (q : ℕ) → Contains xs q → flag f q ≡ true
all_through f w xs place before is q c = of_contained (λ i. flag f i ≡ true) xs (λ j lt. (before.1 j (omega (arith, lt, is))).0) q c

-- of one whose place isn't, the next isn't
pub one_left : (f w : List Bool) (xs : List ℕ) (place : ℕ) → IsBefore f w xs place → (place < length xs → (flag f (slice_index xs place) ≡ false) × (flag w (slice_index xs place) ≡ true)) → (place ≡ length xs → ⊥) → (q : ℕ) × Contains xs q × (flag f q ≡ false)
one_left f w xs place before stops other =
    let lt : place < length xs = omega (arith, before.0, other) in
    (slice_index xs place, contains_at xs place lt, (stops lt).0)

-- the flags say nothing false, as a node's subsequents are wanted that may come next
pub told_through : (nodes : List PlanNode) (invocations : List ℕ) (h : List Event) (p q : Progress) (at : ℕ) → at < length p.over.items → flag p.over.items at ≡ true
    → q.over.items ≡ p.over.items → q.finished.items ≡ p.finished.items → q.confirmed.items ≡ p.confirmed.items
    → ((k : ℕ) → flag q.wanted.items k ≡ true → (flag p.wanted.items k ≡ true) ⊎ MayFollow p.finished.items false (subsequents_at nodes at) k)
    → IsTold nodes invocations h p → IsTold nodes invocations h q
told_through nodes invocations h p q at lt up over_is finished_is confirmed_is only told = record {
  over = λ k within. ap (λ xs. flag xs k) over_is ∙ told.over k (omega (arith, within, ap (λ xs. length xs) over_is));
  finished = λ k raised. told.finished k (subst (λ xs. flag xs k ≡ true) finished_is raised);
  confirmed = λ k raised. told.confirmed k (subst (λ xs. flag xs k ≡ true) confirmed_is raised);
  wanted = λ k raised. ⊎_elim (λ (was : flag p.wanted.items k ≡ true). told.wanted k was)
      (λ (next : MayFollow p.finished.items false (subsequents_at nodes at) k).
      subsequent at k (sym (told.over at lt) ∙ up)
      (leads_weaker (λ i. flag p.finished.items i ≡ true) (IsFinished nodes h) (parallel_at nodes at) (subsequents_at nodes at) k
      (λ j less f. told.finished (slice_index (subsequents_at nodes at) j) f)
      (follow_any p.finished.items (parallel_at nodes at) (subsequents_at nodes at) k next)))
      (only k raised);
}

-- ---- at the start

-- no one stands before the first place of a list
before_none : (finished wanted : List Bool) (xs : List ℕ) (place : ℕ) → place ≡ 0 → IsBefore finished wanted xs place
before_none finished wanted xs place first = (omega (arith, first), λ j lt. absurd (omega (arith, lt, first)))

-- where no list is begun and nothing is pending, each place is one up to which all are finished
pub placed_blank : (nodes : List PlanNode) (invocations : List ℕ) (p : Progress) → p.invocations ≡ 0 → ((m : ℕ) → place_of p.priors.items m ≡ 0) → ((m : ℕ) → place_of p.subsequents.items m ≡ 0) → p.pending.items ≡ []
    → length p.wanted.items ≤ vec_capacity p.pending → ((m q : ℕ) → Contains (priors_at nodes m) q → Contains (dependents_at p q) m) → ((m q : ℕ) → Contains (dependents_at p q) m → m < length nodes)
    → IsPlaced nodes invocations p
placed_blank nodes invocations p invoked priors subsequents none room dependents inside = record {
  invoked = before_none p.finished.items p.wanted.items invocations p.invocations invoked;
  priors = λ m. before_none p.finished.items p.wanted.items (priors_at nodes m) (place_of p.priors.items m) (priors m);
  subsequents = λ m. before_none p.finished.items p.wanted.items (subsequents_at nodes m) (place_of p.subsequents.items m) (subsequents m);
  listed = λ k at. absurd (no_member k (subst (λ (xs : List ℕ). Contains xs k) none at));
  room = omega (arith, ap length none, room, count_by-le-length not p.wanted.items);
  dependents = dependents;
  inside = inside;
}
  where
    no_member : (k : ℕ) → Contains [] k → ⊥
    no_member k at = omega (arith, at.1)
