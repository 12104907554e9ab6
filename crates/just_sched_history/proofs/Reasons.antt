-- The reason of a node that failed.
use Rattle.std.proofs.Common.{◌≡◌, ℕ, ◌<◌, ◌==◌, ◌||◌, Bool, true, false, if◌then◌else◌, List, [], ◌∷◌, ◌++◌, length, Option, Some, None, filter_map, true≢false, eqb-true, refl, ap, sym, ◌∙◌, subst}
use Rattle.std.specs.List.{cons_option}
use Rattle.just_sched_history.specs.declared.event.Event.{Event}
use Rattle.just_sched_history.specs.declared.event.Event.TheVariants as event
use Rattle.just_sched_history.specs.declared.event.Outcome.TheVariants as outcome
use Rattle.just_sched_history.specs.declared.event.Reason.{Reason}
use Rattle.just_sched_history.specs.declared.event.Reason.TheVariants as reason
use Rattle.just_sched_history.specs.State.{catches, reason_in, is_done, first, reason_of, has_caught}
use Rattle.just_sched_history.specs.Legal.{Run, May, MayFailBy, IsLegal}
use Rattle.just_sched_history.specs.Verdict.{decides, NoneDecides}
use Rattle.just_sched_history.proofs.Histories.{legal_holds}
use Rattle.just_sched_history.proofs.OneMore.{reason_kept, reason_new}
use Rattle.just_sched_history.proofs.Tests.{any_kept, or_true}

-- ---- reasons and the verdict

-- a reason of this node is one by which it may fail, by a test
reason_due_at : (s : Run) (h : List Event) (n m : ℕ) (r t : Reason) (b : Bool) → (m == n) ≡ b → MayFailBy s h m t → (if b then Some t else None) ≡ Some r → MayFailBy s h n r
reason_due_at s h n m r t true q may e = let same : t ≡ r = cc in subst (λ x. MayFailBy s h n x) same (subst (λ x. MayFailBy s h x t) (eqb-true m n q) may)
reason_due_at s h n m r t false q may e = absurd (cc)

-- an event with a reason of the node is one by which it may fail so
pub reason_due : (s : Run) (h : List Event) (n : ℕ) (r : Reason) (e : Event) → May s h e → reason_in n e ≡ Some r → MayFailBy s h n r
reason_due s h n r (event.Done m outcome.Well) may q = absurd (cc)
reason_due s h n r (event.Done m (outcome.Failed t)) may q = reason_due_at s h n m r t (m == n) refl may q
reason_due s h n r _ may q = absurd (cc)

-- a reason before or by the last event
reason_since_at : (Q : List Event → Type 0) (h : List Event) (e : Event) (n : ℕ) (r : Reason) (o : Option Reason) → reason_of h n ≡ o → (reason_of h n ≡ Some r → Q (h ++ e ∷ [])) → (reason_in n e ≡ Some r → Q (h ++ e ∷ [])) → reason_of (h ++ e ∷ []) n ≡ Some r → Q (h ++ e ∷ [])
reason_since_at Q h e n r None q old now a = now (sym (reason_new h e n q) ∙ a)
reason_since_at Q h e n r (Some t) q old now a = old (q ∙ sym (reason_kept h e n t q) ∙ a)

-- what holds where a node may fail by a reason, and stays, holds of a history in which it did
pub reason_since : (s : Run) (n : ℕ) (r : Reason) (Q : List Event → Type 0) → ((h : List Event) (e : Event) → Q h → Q (h ++ e ∷ [])) → ((h : List Event) → IsLegal s h → MayFailBy s h n r → Q h) → (h : List Event) → IsLegal s h → reason_of h n ≡ Some r → Q h
reason_since s n r Q grows now h l =
    legal_holds s (λ k. reason_of k n ≡ Some r → Q k) (λ q. absurd (cc))
    (λ k e legal old m a. reason_since_at Q k e n r (reason_of k n) refl (λ q. grows k e (old q)) (λ q. grows k e (now k legal (reason_due s k n r e m q))) a)
    h l

-- a body is interrupted where a signal was caught
pub interrupted_caught : (s : Run) (h : List Event) (n : ℕ) → IsLegal s h → reason_of h n ≡ Some reason.Interrupted → has_caught h ≡ true
interrupted_caught s h n l =
    reason_since s n reason.Interrupted (λ k. has_caught k ≡ true) (λ k e c. any_kept catches k e c) (λ k legal m. m.1) h l

-- no reason but one that decides, or an interruption
undecided : (b : Bool) (o : Option Reason) → b ≡ false → decides o ≡ false → (o ≡ Some reason.Interrupted → b ≡ true) → o ≡ None
undecided b None q d i = refl
undecided b (Some reason.Interrupted) q d i = absurd (true≢false (sym (i refl) ∙ q))
undecided b (Some r) q d i = absurd (cc)

-- where no failure decides and no signal was caught, no node failed
pub no_reason : (s : Run) (h : List Event) → IsLegal s h → NoneDecides s h → has_caught h ≡ false → (n : ℕ) → n < length s.nodes → reason_of h n ≡ None
no_reason s h l none c n lt = undecided (has_caught h) (reason_of h n) c (none n lt) (interrupted_caught s h n l)

-- a reason of this node is an event of it, by a test
reason_done_at : (h : List Event) (n : ℕ) (r t : Reason) (b : Bool) → first (cons_option (if b then Some t else None) (filter_map (reason_in n) h)) ≡ Some r → (reason_of h n ≡ Some r → is_done h n ≡ true) → (b || is_done h n) ≡ true
reason_done_at h n r t true e rest = refl
reason_done_at h n r t false e rest = rest e

-- a node that failed is done
pub reason_done : (h : List Event) (n : ℕ) (r : Reason) → reason_of h n ≡ Some r → is_done h n ≡ true
reason_done [] n r e = absurd (cc)
reason_done (event.Done m outcome.Well ∷ h) n r e = ap (λ b. (m == n) || b) (reason_done h n r e) ∙ or_true (m == n)
reason_done (event.Done m (outcome.Failed t) ∷ h) n r e = reason_done_at h n r t (m == n) e (reason_done h n r)
reason_done (x ∷ h) n r e = reason_done h n r e
