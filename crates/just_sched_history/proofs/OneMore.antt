-- The states of a node behind one event more.
use Rattle.std.proofs.Common.{◌≡◌, ℕ, ◌+◌, ◌&&◌, ◌||◌, not, nat_lt, Bool, true, false, cond, if◌then◌else◌, List, [], ◌∷◌, ◌++◌, Some, None, is_none, filter_map, refl, ap, ap₂, sym, ◌∙◌, eq-eqb}
use Rattle.std.specs.List.{list_any, last_or}
use Rattle.std.proofs.lemmas.List.Folds.{list_any-append}
use Rattle.just_host_record.specs.declared.entry.Status.{Status}
use Rattle.just_host_record.specs.declared.signal.Signal.{Signal}
use Rattle.just_sched_history.specs.declared.event.Event.{Event}
use Rattle.just_sched_history.specs.declared.event.Event.TheVariants as event
use Rattle.just_sched_history.specs.declared.event.Reason.{Reason}
use Rattle.just_sched_history.specs.declared.plan_node.PlanNode.{PlanNode}
use Rattle.just_sched_history.specs.Nodes.{prompt_at}
use Rattle.just_sched_history.specs.State.{is_over, answers, takes, skips, starts, ends, concludes, gives, status_of, start_of, reason_in, signal_in, has_taken, has_given, is_skipped, is_done, is_confirmed, is_open, start_count, end_count, is_running, statuses, last_start, first, reason_of, caught_signal}
use Rattle.just_sched_history.specs.Legal.{in_body, all_starts, is_start}
use Rattle.just_sched_history.specs.Room.{settle_count, settles}
use Rattle.just_sched_history.proofs.Tests.{any_kept, any_more, any_none, any_now, or_true, count_more, count_none, either_way, first_cons, first_kept, first_none, last_push, list_more, list_none, list_now}

-- a weaker second part keeps a disjunction
confirmed_at : (a b c : Bool) → (a || b) ≡ true → (b ≡ true → c ≡ true) → (a || c) ≡ true
confirmed_at true b c h k = refl
confirmed_at false b c h k = k h

-- a node took a job where it had or the event takes it
pub took_more : (h : List Event) (e : Event) (n : ℕ) → has_taken (h ++ e ∷ []) n ≡ (has_taken h n || takes n e)
took_more h e n = any_more (takes n) h e

-- so with the giving back
pub gave_more : (h : List Event) (e : Event) (n : ℕ) → has_given (h ++ e ∷ []) n ≡ (has_given h n || gives n e)
gave_more h e n = any_more (gives n) h e

-- and with being done
pub done_more : (h : List Event) (e : Event) (n : ℕ) → is_done (h ++ e ∷ []) n ≡ (is_done h n || concludes n e)
done_more h e n = any_more (concludes n) h e

-- a node that took a job has taken one
pub taken_on : (old new more : List Event) (n : ℕ) → new ≡ old ++ more → has_taken old n ≡ true → has_taken new n ≡ true
taken_on old new more n grew t = ap (λ h. has_taken h n) grew ∙ list_any-append (takes n) old more ∙ ap (λ b. b || list_any (takes n) more) t

-- a body that is over stays over
pub over_kept : (h : List Event) (e : Event) (n : ℕ) → is_over h n ≡ true → is_over (h ++ e ∷ []) n ≡ true
over_kept h e n o = either_way (is_skipped h n) (is_done h n) (is_skipped (h ++ e ∷ []) n) (is_done (h ++ e ∷ []) n) (any_kept (skips n) h e) (any_kept (concludes n) h e) o

-- a confirmed node stays confirmed
pub confirmed_kept : (nodes : List PlanNode) (h : List Event) (e : Event) (n : ℕ) → is_confirmed nodes h n ≡ true → is_confirmed nodes (h ++ e ∷ []) n ≡ true
confirmed_kept nodes h e n c = confirmed_at (is_none (prompt_at nodes n)) _ _ c (any_kept (answers true n) h e)

-- one that the event answers by a yes is confirmed
pub confirmed_new : (nodes : List PlanNode) (h : List Event) (e : Event) (n : ℕ) → answers true n e ≡ true → is_confirmed nodes (h ++ e ∷ []) n ≡ true
confirmed_new nodes h e n q = ap (λ b. is_none (prompt_at nodes n) || b) (any_now (answers true n) h e q) ∙ or_true (is_none (prompt_at nodes n))

-- a node that is confirmed behind the event was so, or is answered by it
confirmed_apart : (a b c : Bool) → (a || (b || c)) ≡ true → ((a || b) || c) ≡ true
confirmed_apart true b c q = refl
confirmed_apart false b c q = q

-- so one of two tests passes, where the first does for a node that was confirmed
pub confirmed_was : (nodes : List PlanNode) (h : List Event) (e : Event) (n : ℕ) (flagged named : Bool) → named ≡ answers true n e → (is_confirmed nodes h n ≡ true → flagged ≡ true) → is_confirmed nodes (h ++ e ∷ []) n ≡ true → (flagged || named) ≡ true
confirmed_was nodes h e n flagged named same was sure =
    either_way (is_confirmed nodes h n) (answers true n e) flagged named was (λ q. same ∙ q)
    (confirmed_apart (is_none (prompt_at nodes n)) (list_any (answers true n) h) (answers true n e) (ap (λ b. is_none (prompt_at nodes n) || b) (sym (any_more (answers true n) h e)) ∙ sure))

-- one start more, where the event is one
pub starts_more : (h : List Event) (e : Event) (n : ℕ) → start_count (h ++ e ∷ []) n ≡ start_count h n + cond (starts n e) 1 0
starts_more h e n = count_more (starts n) h e

-- one end more, where the event is one
pub ends_more : (h : List Event) (e : Event) (n : ℕ) → end_count (h ++ e ∷ []) n ≡ end_count h n + cond (ends n e) 1 0
ends_more h e n = count_more (ends n) h e

-- the same of the starts of all nodes
pub all_starts_more : (h : List Event) (e : Event) → all_starts (h ++ e ∷ []) ≡ all_starts h + cond (is_start e) 1 0
all_starts_more h e = count_more is_start h e

-- the same of the settled children
pub settles_more : (h : List Event) (e : Event) → settle_count (h ++ e ∷ []) ≡ settle_count h + cond (settles e) 1 0
settles_more h e = count_more settles h e

-- an event that takes and gives no job leaves the node as open as it was
pub is_open_stays : (h : List Event) (e : Event) (n : ℕ) → takes n e ≡ false → gives n e ≡ false → is_open (h ++ e ∷ []) n ≡ is_open h n
is_open_stays h e n p q = ap₂ (λ a b. a && not b) (any_none (takes n) h e p) (any_none (gives n) h e q)

-- one that skips and concludes nothing leaves it in its body
pub in_body_stays : (h : List Event) (e : Event) (n : ℕ) → takes n e ≡ false → gives n e ≡ false → skips n e ≡ false → concludes n e ≡ false → in_body (h ++ e ∷ []) n ≡ in_body h n
in_body_stays h e n p q r t =
    ap₂ (λ a b. a && not b) (is_open_stays h e n p q) (ap₂ (λ a b. a || b) (any_none (skips n) h e r) (any_none (concludes n) h e t))

-- one that starts, ends and concludes nothing leaves it running
pub running_stays : (h : List Event) (e : Event) (n : ℕ) → starts n e ≡ false → ends n e ≡ false → concludes n e ≡ false → is_running (h ++ e ∷ []) n ≡ is_running h n
running_stays h e n p q r =
    ap₂ (λ a b. a && not b) (ap₂ (λ a b. nat_lt a b) (count_none (ends n) h e q) (count_none (starts n) h e p)) (any_none (concludes n) h e r)

-- the child of a command that was just started
pub last_started : (h : List Event) (n i c : ℕ) → last_start (h ++ event.Started n i c ∷ []) n ≡ Some (i, c)
last_started h n i c =
    ap (λ xs. last_or None xs) (list_now (start_of n) h (event.Started n i c) (i, c) (ap (λ b. if b then Some (i, c) else None) (eq-eqb n n refl)))
    ∙ last_push None (filter_map (start_of n) h) (i, c)

-- the status of a command that has just ended
pub statuses_ended : (h : List Event) (n i c : ℕ) (t : Status) → statuses (h ++ event.Ended n i c t ∷ []) n ≡ statuses h n ++ t ∷ []
statuses_ended h n i c t = list_now (status_of n) h (event.Ended n i c t) t (ap (λ b. if b then Some t else None) (eq-eqb n n refl))

-- one without a status leaves the statuses
pub statuses_stay : (h : List Event) (e : Event) (n : ℕ) → status_of n e ≡ None → statuses (h ++ e ∷ []) n ≡ statuses h n
statuses_stay h e n q = list_none (status_of n) h e q

-- one that starts nothing leaves the last start
pub last_start_stays : (h : List Event) (e : Event) (n : ℕ) → start_of n e ≡ None → last_start (h ++ e ∷ []) n ≡ last_start h n
last_start_stays h e n q = ap (λ xs. last_or None xs) (list_none (start_of n) h e q)

-- the first reason stays; where there is none, it is that of the event
pub reason_kept : (h : List Event) (e : Event) (n : ℕ) (r : Reason) → reason_of h n ≡ Some r → reason_of (h ++ e ∷ []) n ≡ Some r
reason_kept h e n r q = ap first (list_more (reason_in n) h e) ∙ first_kept (filter_map (reason_in n) h) _ r q

-- where there is no reason, it is that of the event
pub reason_new : (h : List Event) (e : Event) (n : ℕ) → reason_of h n ≡ None → reason_of (h ++ e ∷ []) n ≡ reason_in n e
reason_new h e n q = ap first (list_more (reason_in n) h e) ∙ first_none (filter_map (reason_in n) h) _ q ∙ first_cons (reason_in n e)

-- an event without a reason leaves the reason
pub reason_stays : (h : List Event) (e : Event) (n : ℕ) → reason_in n e ≡ None → reason_of (h ++ e ∷ []) n ≡ reason_of h n
reason_stays h e n q = ap first (list_none (reason_in n) h e q)

-- the same of the caught signal
pub signal_kept : (h : List Event) (e : Event) (g : Signal) → caught_signal h ≡ Some g → caught_signal (h ++ e ∷ []) ≡ Some g
signal_kept h e g q = ap first (list_more signal_in h e) ∙ first_kept (filter_map signal_in h) _ g q

-- where no signal was caught, it is that of the event
pub signal_new : (h : List Event) (e : Event) → caught_signal h ≡ None → caught_signal (h ++ e ∷ []) ≡ signal_in e
signal_new h e q = ap first (list_more signal_in h e) ∙ first_none (filter_map signal_in h) _ q ∙ first_cons (signal_in e)

-- an event without a signal leaves the signal
pub signal_stays : (h : List Event) (e : Event) → signal_in e ≡ None → caught_signal (h ++ e ∷ []) ≡ caught_signal h
signal_stays h e q = ap first (list_none signal_in h e q)
