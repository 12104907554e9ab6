-- How many bodies are open behind an event.
use Rattle.std.proofs.Common.{◌≡◌, ℕ, ◌+◌, ◌<◌, ◌≤◌, ◌==◌, ◌&&◌, not, Bool, true, false, cond, List, [], ◌∷◌, ◌++◌, length, count_by, refl, ap, ap₂, sym, ◌∙◌, subst, arith, eqb-true, eq-eqb}
use borrow.Author.Tests.{eqb-false}
use Rattle.std.specs.List.{range_with_len}
use Rattle.just_sched_history.specs.declared.event.Event.{Event}
use Rattle.just_sched_history.specs.declared.event.Event.TheVariants as event
use Rattle.just_sched_history.specs.State.{takes, gives, has_taken, is_open}
use Rattle.just_sched_history.specs.Legal.{Run, May, IsLegal, open_bodies, IsClosed}
use Rattle.just_sched_history.proofs.Counts.{untaken}
use Rattle.just_sched_history.proofs.Due.{is_opened, opened}
use Rattle.just_sched_history.proofs.OneMore.{is_open_stays}
use Rattle.just_sched_history.proofs.Others.{apart, others_stay}
use Rattle.just_sched_history.proofs.PlanShape.{IsFormed}
use Rattle.just_sched_history.proofs.Range.{in_range, ready_there}
use Rattle.just_sched_history.proofs.Sums.{one_hot, sum_add, sum_same, sum_zero}
use Rattle.just_sched_history.proofs.Tests.{and_false, any_none, any_now}

-- one test more passes
one_passes_at : (p q : ℕ → Bool) (m k : ℕ) (b : Bool) → (m == k) ≡ b → p m ≡ false → q m ≡ true → ((m ≡ k → ⊥) → q k ≡ p k) → cond (q k) 1 0 ≡ cond (p k) 1 0 + cond (m == k) 1 0
one_passes_at p q m k true e no_p yes_q same =
    subst (λ j. cond (q j) 1 0 ≡ cond (p j) 1 0 + cond (m == j) 1 0) (eqb-true m k e) (omega (arith, ap {B = ℕ} (λ b. cond b 1 0) no_p, ap {B = ℕ} (λ b. cond b 1 0) yes_q, ap {B = ℕ} (λ b. cond b 1 0) (eq-eqb m m refl)))
one_passes_at p q m k false e no_p yes_q same =
    omega (arith, ap {B = ℕ} (λ b. cond b 1 0) (same (eqb-false m k e)), ap {B = ℕ} (λ b. cond b 1 0) e)

-- where just one number more passes, one more is counted
pub one_passes : (p q : ℕ → Bool) (m n : ℕ) → m < n → p m ≡ false → q m ≡ true → ((k : ℕ) → (m ≡ k → ⊥) → q k ≡ p k) → count_by q (range_with_len 0 n) ≡ count_by p (range_with_len 0 n) + 1
one_passes p q m n lt no_p yes_q same =
    sum_same (λ k. cond (q k) 1 0) (λ k. cond (p k) 1 0 + cond (m == k) 1 0) 0 n (λ k low high. one_passes_at p q m k (m == k) refl no_p yes_q (same k))
    ∙ sum_add (λ k. cond (p k) 1 0) (λ k. cond (m == k) 1 0) (range_with_len 0 n)
    ∙ ap (λ x. count_by p (range_with_len 0 n) + x) (one_hot m 0 n (omega arith) (omega (arith, lt)))

-- a job taken opens one body more
pub open_took : (s : Run) (h : List Event) (n : ℕ) → IsFormed s → IsLegal s h → May s h (event.Took n) → open_bodies s (h ++ event.Took n ∷ []) ≡ open_bodies s h + 1
open_took s h n f l may =
    let e = event.Took n in
    let none = untaken s h n l may.0.not_taken in
    one_passes (λ k. is_open h k) (λ k. is_open (h ++ e ∷ []) k) n (length s.nodes) (ready_there s h n f may.0) none.is_open
    (is_opened (h ++ e ∷ []) n (any_now (takes n) h e (eq-eqb n n refl)) (any_none (gives n) h e refl ∙ none.gave))
    (λ k ne. (others_stay h e k (apart n k ne)).is_open)

-- a job given back leaves one body less
pub open_gave : (s : Run) (h : List Event) (n : ℕ) → IsFormed s → IsLegal s h → May s h (event.Gave n) → open_bodies s (h ++ event.Gave n ∷ []) + 1 ≡ open_bodies s h
open_gave s h n f l may =
    let e = event.Gave n in
    sym (one_passes (λ k. is_open (h ++ e ∷ []) k) (λ k. is_open h k) n (length s.nodes) (in_range s h n f l (opened h n may.0).0)
    (ap₂ (λ a b. a && not b) refl (any_now (gives n) h e (eq-eqb n n refl)) ∙ and_false (has_taken (h ++ e ∷ []) n))
    may.0
    (λ k ne. sym (others_stay h e k (apart n k ne)).is_open))

-- an event that neither takes nor gives a job leaves the open bodies
pub open_stays : (s : Run) (h : List Event) (e : Event) → ((n : ℕ) → takes n e ≡ false) → ((n : ℕ) → gives n e ≡ false) → open_bodies s (h ++ e ∷ []) ≡ open_bodies s h
open_stays s h e takes gives =
    sum_same (λ k. cond (is_open (h ++ e ∷ []) k) 1 0) (λ k. cond (is_open h k) 1 0) 0 (length s.nodes) (λ k low high. ap {B = ℕ} (λ b. cond b 1 0) (is_open_stays h e k (takes k) (gives k)))

-- where no number passes, none is counted
none_pass : (p : ℕ → Bool) (a n : ℕ) → ((k : ℕ) → a ≤ k → k < a + n → p k ≡ false) → count_by p (range_with_len a n) ≡ 0
none_pass p a n h = sum_same (λ k. cond (p k) 1 0) (λ k. 0) a n (λ k low high. ap {B = ℕ} (λ b. cond b 1 0) (h k low high)) ∙ sum_zero n a

-- where no body is open, none is counted
pub closed_zero : (s : Run) (h : List Event) → IsClosed s h → open_bodies s h ≡ 0
closed_zero s h c = none_pass (λ k. is_open h k) 0 (length s.nodes) (λ k low high. c k (omega (arith, high)))
