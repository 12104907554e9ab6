-- What is in a state of a node, and what each kind of event needs.
use Rattle.std.proofs.Common.{◌≡◌, ℕ, ◌<◌, ◌≤◌, inl, inr, ◌&&◌, not, nat_lt, Bool, true, false, List, refl, ap, subst, eqb-true, ltb-true, ltb-false, lt-ltb}
use Rattle.just_host_record.specs.declared.entry.Call.{Call}
use Rattle.just_host_record.specs.declared.entry.Call.TheVariants as call
use Rattle.just_sched_history.specs.declared.event.Event.{Event}
use Rattle.just_sched_history.specs.declared.event.Event.TheVariants as event
use Rattle.just_sched_history.specs.declared.event.Outcome.{Outcome}
use Rattle.just_sched_history.specs.declared.event.Outcome.TheVariants as outcome
use Rattle.just_sched_history.specs.declared.event.Reason.{Reason}
use Rattle.just_sched_history.specs.declared.event.Reason.TheVariants as reason
use Rattle.just_exec_work.specs.declared.work.Step.TheVariants as step
use Rattle.just_sched_history.specs.State.{is_over, asks, takes, skips, begins, starts, concludes, concludes_well, gives, has_taken, has_given, is_skipped, is_done, is_open, start_count, end_count, is_running, IsToAsk, IsReady}
use Rattle.just_sched_history.specs.Cached.{looks, saves, saw_full}
use Rattle.just_sched_history.specs.Legal.{Run, Due, Asked, Looked, Begun, Started, Ended, Saved, in_body, IsDue, MayMiss, MayFail, IsAtEnd, MayFailBy, May}
use Rattle.just_sched_history.proofs.Tests.{all_both, both, neither, not_true}

-- ---- what is in a state

-- a node in its body, part by part
pub record InBody (h : List Event) (n : ℕ) : Type 0 where
  pub is_open : is_open h n ≡ true
  pub took : has_taken h n ≡ true
  pub not_given : has_given h n ≡ false
  pub not_skipped : is_skipped h n ≡ false
  pub not_done : is_done h n ≡ false

-- a node in its body, taken apart
pub inside : (h : List Event) (n : ℕ) → in_body h n ≡ true → InBody h n
inside h n e =
    let a = both (is_open h n) (not (is_over h n)) e in
    let b = neither (is_skipped h n) (is_done h n) (not_true (is_over h n) a.1) in
    let c = both (has_taken h n) (not (has_given h n)) a.0 in
    record { is_open = a.0; took = c.0; not_given = not_true (has_given h n) c.1; not_skipped = b.0; not_done = b.1 }

-- an open node took a job and gave none back
pub opened : (h : List Event) (n : ℕ) → is_open h n ≡ true → (has_taken h n ≡ true) × (has_given h n ≡ false)
opened h n e = let c = both (has_taken h n) (not (has_given h n)) e in (c.0, not_true (has_given h n) c.1)

-- a node that took a job and gave none back is open
pub is_opened : (h : List Event) (n : ℕ) → has_taken h n ≡ true → has_given h n ≡ false → is_open h n ≡ true
is_opened h n t g = all_both (has_taken h n) (not (has_given h n)) t (ap not g)

-- an open body that isn't over is in its body
pub is_inside : (h : List Event) (n : ℕ) → is_open h n ≡ true → is_over h n ≡ false → in_body h n ≡ true
is_inside h n o v = all_both (is_open h n) (not (is_over h n)) o (ap not v)

-- a node that runs started more than ended, and isn't done
pub runs : (h : List Event) (n : ℕ) → is_running h n ≡ true → (end_count h n < start_count h n) × (is_done h n ≡ false)
runs h n e = let c = both (nat_lt (end_count h n) (start_count h n)) (not (is_done h n)) e in (ltb-true (end_count h n) (start_count h n) c.0, not_true (is_done h n) c.1)

-- a node that started more than ended and isn't done runs
pub running_by : (h : List Event) (n : ℕ) → end_count h n < start_count h n → is_done h n ≡ false → is_running h n ≡ true
running_by h n lt d = all_both (nat_lt (end_count h n) (start_count h n)) (not (is_done h n)) (lt-ltb (end_count h n) (start_count h n) lt) (ap not d)

-- what fails a conjunction with a true second part
rests_at : (b d : Bool) → (b && not d) ≡ false → d ≡ false → b ≡ false
rests_at true d r e = absurd (cc (ap not e))
rests_at false d r e = refl

-- a node that doesn't run and isn't done has no start without its end
pub rests : (h : List Event) (n : ℕ) → is_running h n ≡ false → is_done h n ≡ false → start_count h n ≤ end_count h n
rests h n r d = ltb-false (end_count h n) (start_count h n) (rests_at (nat_lt (end_count h n) (start_count h n)) (is_done h n) r d)

-- ---- what each kind of event needs

-- a node with a due event isn't done
pub due_not_done : (s : Run) (h : List Event) (n : ℕ) (d : Due) → IsDue s h n d → is_done h n ≡ false
due_not_done s h n Asked e = e.not_done
due_not_done s h n Looked e = (inside h n e.0).not_done
due_not_done s h n Begun e = (inside h n e.0).not_done
due_not_done s h n (Started i) e = (inside h n e.0).not_done
due_not_done s h n Ended e = (inside h n e.0).not_done
due_not_done s h n Saved e = (inside h n e.0).not_done

-- a call that may miss or fail is one of a due event
pub miss_due : (s : Run) (h : List Event) (n : ℕ) (c : Call) → MayMiss s h n c → (d : Due) × IsDue s h n d
miss_due s h n call.Ask m = (Asked, m)
miss_due s h n call.Probe m = (Looked, m)
miss_due s h n call.Temp m = (Started m.0, m.1)
miss_due s h n call.Check m = (Saved, m)
miss_due s h n call.Save m = (Saved, m)
miss_due s h n _ m = absurd m

-- a call that may fail is one of a due event
pub fail_due : (s : Run) (h : List Event) (n : ℕ) (c : Call) → MayFail s h n c → (d : Due) × IsDue s h n d
fail_due s h n call.Ask m = (Asked, m)
fail_due s h n call.Sum m = (Looked, m)
fail_due s h n call.Probe m = (Looked, m)
fail_due s h n call.Print (inl m) = (Begun, m)
fail_due s h n call.Print (inr m) = (Started m.0, m.1)
fail_due s h n call.Temp m = (Started m.0, m.1)
fail_due s h n call.Start m = (Started m.0, m.1)
fail_due s h n call.Wait m = (Ended, m)
fail_due s h n call.Check m = (Saved, m)
fail_due s h n call.Save m = (Saved, m)
fail_due s h n _ m = absurd m

-- a node that may fail isn't done
pub by_not_done : (s : Run) (h : List Event) (n : ℕ) (r : Reason) → MayFailBy s h n r → is_done h n ≡ false
by_not_done s h n reason.Status m = m.not_done
by_not_done s h n reason.NotConfirmed m = m.1
by_not_done s h n (reason.Input j x) m = due_not_done s h n Looked m.0
by_not_done s h n (reason.Output j) m = due_not_done s h n Saved m.0
by_not_done s h n (reason.Place c x) m = let d = miss_due s h n c m in due_not_done s h n d.0 d.1
by_not_done s h n (reason.Fault c) m = let d = fail_due s h n c m in due_not_done s h n d.0 d.1
by_not_done s h n reason.Interrupted m = due_not_done s h n (Started m.0.0) m.0.1
by_not_done s h n reason.NoMemory m = due_not_done s h n m.0 m.1

-- a node that may be concluded isn't done
end_not_done : (s : Run) (h : List Event) (n : ℕ) (o : Outcome) → May s h (event.Done n o) → is_done h n ≡ false
end_not_done s h n outcome.Well m = m.0.not_done
end_not_done s h n (outcome.Failed r) m = by_not_done s h n r m

-- an asked node is to be asked
pub asked_due : (s : Run) (h : List Event) (n : ℕ) (e : Event) → May s h e → asks n e ≡ true → IsToAsk s.nodes s.invocations h n
asked_due s h n (event.Asked m y) may q = subst (λ k. IsToAsk s.nodes s.invocations h k) (eqb-true m n q) may.0
asked_due s h n _ may q = absurd (cc)

-- a node that takes a job is ready
pub took_ready : (s : Run) (h : List Event) (n : ℕ) (e : Event) → May s h e → takes n e ≡ true → IsReady s.nodes s.invocations h n
took_ready s h n (event.Took m) may q = subst (λ k. IsReady s.nodes s.invocations h k) (eqb-true m n q) may.0
took_ready s h n _ may q = absurd (cc)

-- a node that begins is due to begin
pub begun_due : (s : Run) (h : List Event) (n : ℕ) (e : Event) → May s h e → begins n e ≡ true → IsDue s h n Begun
begun_due s h n (event.Begun m) may q = subst (λ k. IsDue s h k Begun) (eqb-true m n q) may
begun_due s h n _ may q = absurd (cc)

-- a node that starts a command is due to start one
pub started_due : (s : Run) (h : List Event) (n : ℕ) (e : Event) → May s h e → starts n e ≡ true → (i : ℕ) × IsDue s h n (Started i)
started_due s h n (event.Started m i c) may q = (i, subst (λ k. IsDue s h k (Started i)) (eqb-true m n q) may.0)
started_due s h n _ may q = absurd (cc)

-- a node that is concluded wasn't done
pub done_once : (s : Run) (h : List Event) (n : ℕ) (e : Event) → May s h e → concludes n e ≡ true → is_done h n ≡ false
done_once s h n (event.Done m o) may q = subst (λ k. is_done h k ≡ false) (eqb-true m n q) (end_not_done s h m o may)
done_once s h n _ may q = absurd (cc)

-- a body that ends well is at its end
pub well_due : (s : Run) (h : List Event) (n : ℕ) (e : Event) → May s h e → concludes_well n e ≡ true → IsAtEnd s h n step.Well
well_due s h n (event.Done m outcome.Well) may q = subst (λ k. IsAtEnd s h k step.Well) (eqb-true m n q) may.0
well_due s h n (event.Done m (outcome.Failed r)) may q = absurd (cc)
well_due s h n _ may q = absurd (cc)

-- a node whose entry is looked at is due to have that
pub looked_due : (s : Run) (h : List Event) (n : ℕ) (e : Event) → May s h e → looks n e ≡ true → IsDue s h n Looked
looked_due s h n (event.Looked m sums seen) may q = subst (λ k. IsDue s h k Looked) (eqb-true m n q) may.0
looked_due s h n _ may q = absurd (cc)

-- and one whose entry is saved, to have that
pub saved_due : (s : Run) (h : List Event) (n : ℕ) (e : Event) → May s h e → saves n e ≡ true → IsDue s h n Saved
saved_due s h n (event.Saved m) may q = subst (λ k. IsDue s h k Saved) (eqb-true m n q) may
saved_due s h n _ may q = absurd (cc)

-- a job is given back by an open body that is over
pub gave_due : (s : Run) (h : List Event) (n : ℕ) (e : Event) → May s h e → gives n e ≡ true → (is_open h n ≡ true) × (is_over h n ≡ true)
gave_due s h n (event.Gave m) may q = subst (λ k. (is_open h k ≡ true) × (is_over h k ≡ true)) (eqb-true m n q) may
gave_due s h n _ may q = absurd (cc)

-- a node that is skipped is in its body, and its look was full
pub skip_due : (s : Run) (h : List Event) (n : ℕ) (e : Event) → May s h e → skips n e ≡ true → (in_body h n ≡ true) × (saw_full s.nodes h n ≡ true)
skip_due s h n (event.Skipped m) may q = subst (λ k. (in_body h k ≡ true) × (saw_full s.nodes h k ≡ true)) (eqb-true m n q) may
skip_due s h n _ may q = absurd (cc)
