-- Each event of a legal history is one of a node of the plan, or a caught signal.
use Rattle.std.proofs.Common.{◌≡◌, ℕ, ◌<◌, ◌==◌, not, Bool, true, false, if◌then◌else◌, List, [], ◌∷◌, length, subst}
use Rattle.std.specs.List.{list_any}
use Rattle.just_sched_history.specs.declared.event.Event.{Event}
use Rattle.just_sched_history.specs.declared.event.Event.TheVariants as event
use Rattle.just_sched_history.specs.declared.event.Outcome.TheVariants as outcome
use Rattle.just_sched_history.specs.declared.event.Reason.{Reason}
use Rattle.just_sched_history.specs.declared.event.Reason.TheVariants as reason
use Rattle.just_sched_history.specs.State.{answers, asks, takes, catches, has_taken, is_asked, IsToAsk, IsReady, IsWanted, invoked, prior, subsequent}
use Rattle.just_sched_history.specs.Legal.{Run, Due, Asked, Looked, Begun, Started, Ended, Saved, IsDue, May, IsLegal}
use Rattle.just_sched_history.proofs.Due.{asked_due, fail_due, inside, miss_due, opened, took_ready}
use Rattle.just_sched_history.proofs.Order.{begun_took, since}
use Rattle.just_sched_history.proofs.PlanShape.{IsFormed, invocation_is, prior_is, subsequent_is}
use Rattle.just_sched_history.proofs.Tests.{both, either_way}

-- a wanted node is one of the plan
pub wanted_there : (s : Run) (h : List Event) (n : ℕ) → IsFormed s → IsWanted s.nodes s.invocations h n → n < length s.nodes
wanted_there s h n f (invoked k l) = subst (λ q. q < length s.nodes) l.2 (invocation_is s f l.0 l.1).there
wanted_there s h n f (prior m k w c l) = subst (λ q. q < length s.nodes) l.2 (prior_is s f m l.0 l.1).there
wanted_there s h n f (subsequent m k w l) = subst (λ q. q < length s.nodes) l.2 (subsequent_is s f m l.0 l.1).there

-- so is a ready one
pub ready_there : (s : Run) (h : List Event) (n : ℕ) → IsFormed s → IsReady s.nodes s.invocations h n → n < length s.nodes
ready_there s h n f r = wanted_there s h n f r.wanted

-- and one that is to be asked
pub to_ask_there : (s : Run) (h : List Event) (n : ℕ) → IsFormed s → IsToAsk s.nodes s.invocations h n → n < length s.nodes
to_ask_there s h n f r = wanted_there s h n f r.wanted

-- a node that took a job, or was asked, is one of the plan
pub in_range : (s : Run) (h : List Event) (n : ℕ) → IsFormed s → IsLegal s h → has_taken h n ≡ true → n < length s.nodes
in_range s h n f l = since s (takes n) (λ k. n < length s.nodes) (λ k e lt. lt) (λ k e legal m q. ready_there s k n f (took_ready s k n e m q)) h l

-- and one that was asked
pub asked_range : (s : Run) (h : List Event) (n : ℕ) → IsFormed s → IsLegal s h → is_asked h n ≡ true → n < length s.nodes
asked_range s h n f l = since s (asks n) (λ k. n < length s.nodes) (λ k e lt. lt) (λ k e legal m q. to_ask_there s k n f (asked_due s k n e m q)) h l

-- and one with a due event
pub due_range : (s : Run) (h : List Event) (n : ℕ) (d : Due) → IsFormed s → IsLegal s h → IsDue s h n d → n < length s.nodes
due_range s h n Asked f l e = to_ask_there s h n f e
due_range s h n Looked f l e = in_range s h n f l (inside h n e.0).took
due_range s h n Begun f l e = in_range s h n f l (inside h n e.0).took
due_range s h n (Started i) f l e = in_range s h n f l (inside h n e.0).took
due_range s h n Ended f l e = in_range s h n f l (inside h n e.0).took
due_range s h n Saved f l e = in_range s h n f l (inside h n e.0).took

-- a weaker test passes too
pub any_weaker : {A : Type 0} (p q : A → Bool) → ((x : A) → p x ≡ true → q x ≡ true) → (xs : List A) → list_any p xs ≡ true → list_any q xs ≡ true
any_weaker p q weaker [] a = absurd (cc)
any_weaker p q weaker (x ∷ xs) a = either_way (p x) (list_any p xs) (q x) (list_any q xs) (weaker x) (any_weaker p q weaker xs) a

-- an answer is an asking
answer_asks : (w : Bool) (n : ℕ) (e : Event) → answers w n e ≡ true → asks n e ≡ true
answer_asks w n (event.Asked m y) q = (both (m == n) (if w then y else not y) q).0
answer_asks w n _ q = absurd (cc)

-- an answer is an asking
pub answered_asked : (w : Bool) (h : List Event) (n : ℕ) → list_any (answers w n) h ≡ true → is_asked h n ≡ true
answered_asked w h n q = any_weaker (answers w n) (asks n) (answer_asks w n) h q

-- a node that may fail is one of the plan
failure_range : (s : Run) (h : List Event) (n : ℕ) (r : Reason) → IsFormed s → IsLegal s h → May s h (event.Done n (outcome.Failed r)) → n < length s.nodes
failure_range s h n reason.Status f l m = in_range s h n f l (begun_took s h n l m.begun)
failure_range s h n reason.NotConfirmed f l m = asked_range s h n f l (answered_asked false h n m.0)
failure_range s h n (reason.Input j x) f l m = due_range s h n Looked f l m.0
failure_range s h n (reason.Output j) f l m = due_range s h n Saved f l m.0
failure_range s h n (reason.Place c x) f l m = let d = miss_due s h n c m in due_range s h n d.0 f l d.1
failure_range s h n (reason.Fault c) f l m = let d = fail_due s h n c m in due_range s h n d.0 f l d.1
failure_range s h n reason.Interrupted f l m = due_range s h n (Started m.0.0) f l m.0.1
failure_range s h n reason.NoMemory f l m = due_range s h n m.0 f l m.1

-- the number of the node of an event; that of a caught signal isn't looked at
abbrev pub number_of : Event → ℕ
number_of (event.Asked m y) = m
number_of (event.Took m) = m
number_of (event.Looked m sums look) = m
number_of (event.Skipped m) = m
number_of (event.Begun m) = m
number_of (event.Started m i c) = m
number_of (event.Ended m i c t) = m
number_of (event.Saved m) = m
number_of (event.Done m o) = m
number_of (event.Gave m) = m
number_of (event.Caught g) = 0

-- an event that may come is one of a node of the plan, or a caught signal
pub event_range : (s : Run) (h : List Event) (e : Event) → IsFormed s → IsLegal s h → May s h e → catches e ≡ false → number_of e < length s.nodes
event_range s h (event.Asked m y) f l may q = to_ask_there s h m f may.0
event_range s h (event.Took m) f l may q = ready_there s h m f may.0
event_range s h (event.Looked m sums seen) f l may q = due_range s h m Looked f l may.0
event_range s h (event.Skipped m) f l may q = in_range s h m f l (inside h m may.0).took
event_range s h (event.Begun m) f l may q = due_range s h m Begun f l may
event_range s h (event.Started m i c) f l may q = due_range s h m (Started i) f l may.0
event_range s h (event.Ended m i c t) f l may q = due_range s h m Ended f l may.0
event_range s h (event.Saved m) f l may q = due_range s h m Saved f l may
event_range s h (event.Done m outcome.Well) f l may q = in_range s h m f l (begun_took s h m l may.0.begun)
event_range s h (event.Done m (outcome.Failed r)) f l may q = failure_range s h m r f l may
event_range s h (event.Gave m) f l may q = in_range s h m f l (opened h m may.0).0
event_range s h (event.Caught g) f l may q = absurd (cc)
