-- An event of one node leaves the states of every other.
use Rattle.std.proofs.Common.{◌≡◌, ℕ, ◌==◌, ◌&&◌, ◌||◌, not, Bool, false, if◌then◌else◌, List, [], ◌∷◌, ◌++◌, Some, None, refl, ap, ap₂, ne_eqb}
use Rattle.std.specs.List.{list_any}
use Rattle.just_sched_history.specs.declared.event.Event.{Event}
use Rattle.just_sched_history.specs.declared.event.Event.TheVariants as event
use Rattle.just_sched_history.specs.declared.event.Outcome.TheVariants as outcome
use Rattle.just_sched_history.specs.declared.plan_node.PlanNode.{PlanNode}
use Rattle.just_exec_work.specs.Steps.{after}
use Rattle.just_sched_history.specs.Nodes.{work_at}
use Rattle.just_sched_history.specs.State.{is_of, answers, asks, takes, skips, begins, starts, ends, concludes, concludes_well, fails, gives, status_of, start_of, reason_in, has_taken, has_given, is_begun, is_skipped, is_done, is_asked, is_over_well, has_failed, is_open, start_count, end_count, is_running, statuses, last_start, reason_of, next_step}
use Rattle.just_sched_history.specs.Legal.{in_body}
use Rattle.just_sched_history.proofs.OneMore.{in_body_stays, is_open_stays, last_start_stays, reason_stays, running_stays, statuses_stay}
use Rattle.just_sched_history.proofs.Tests.{any_none, count_none}

-- two numbers that differ test so
pub apart : (m n : ℕ) → (m ≡ n → ⊥) → (m == n) ≡ false
apart m n ne = ne_eqb m n ne

-- a node's states are the same in the history k as in h
pub record IsSame (h k : List Event) (n : ℕ) : Type 0 where
  pub in_body : in_body k n ≡ in_body h n
  pub is_open : is_open k n ≡ is_open h n
  pub running : is_running k n ≡ is_running h n
  pub took : has_taken k n ≡ has_taken h n
  pub gave : has_given k n ≡ has_given h n
  pub begun : is_begun k n ≡ is_begun h n
  pub skipped : is_skipped k n ≡ is_skipped h n
  pub done : is_done k n ≡ is_done h n
  pub asked : is_asked k n ≡ is_asked h n
  pub answered : (wanted : Bool) → list_any (answers wanted n) k ≡ list_any (answers wanted n) h
  pub over_well : is_over_well k n ≡ is_over_well h n
  pub failed : has_failed k n ≡ has_failed h n
  pub starts : start_count k n ≡ start_count h n
  pub ends : end_count k n ≡ end_count h n
  pub statuses : statuses k n ≡ statuses h n
  pub last_start : last_start k n ≡ last_start h n
  pub reason_of : reason_of k n ≡ reason_of h n

-- an event of another node answers nothing of this one
pub answer_of : (w : Bool) (n : ℕ) (e : Event) → is_of n e ≡ false → answers w n e ≡ false
answer_of w n (event.Asked m y) o = ap (λ b. b && (if w then y else not y)) o
answer_of w n _ o = refl

-- it asks nothing of it
pub asked_of : (n : ℕ) (e : Event) → is_of n e ≡ false → asks n e ≡ false
asked_of n (event.Asked m y) o = o
asked_of n _ o = refl

-- it takes no job for it
pub took_of : (n : ℕ) (e : Event) → is_of n e ≡ false → takes n e ≡ false
took_of n (event.Took m) o = o
took_of n _ o = refl

-- it doesn't skip it
pub skipped_of : (n : ℕ) (e : Event) → is_of n e ≡ false → skips n e ≡ false
skipped_of n (event.Skipped m) o = o
skipped_of n _ o = refl

-- it doesn't begin it
pub begun_of : (n : ℕ) (e : Event) → is_of n e ≡ false → begins n e ≡ false
begun_of n (event.Begun m) o = o
begun_of n _ o = refl

-- it starts nothing of it
pub started_of : (n : ℕ) (e : Event) → is_of n e ≡ false → starts n e ≡ false
started_of n (event.Started m i c) o = o
started_of n _ o = refl

-- it ends nothing of it
pub ended_of : (n : ℕ) (e : Event) → is_of n e ≡ false → ends n e ≡ false
ended_of n (event.Ended m i c t) o = o
ended_of n _ o = refl

-- it doesn't conclude it
pub done_of : (n : ℕ) (e : Event) → is_of n e ≡ false → concludes n e ≡ false
done_of n (event.Done m r) o = o
done_of n _ o = refl

-- it doesn't conclude it well
pub well_of : (n : ℕ) (e : Event) → is_of n e ≡ false → concludes_well n e ≡ false
well_of n (event.Done m outcome.Well) o = o
well_of n (event.Done m (outcome.Failed r)) o = refl
well_of n _ o = refl

-- it doesn't fail it
pub failure_of : (n : ℕ) (e : Event) → is_of n e ≡ false → fails n e ≡ false
failure_of n (event.Done m outcome.Well) o = refl
failure_of n (event.Done m (outcome.Failed r)) o = o
failure_of n _ o = refl

-- it gives no job back for it
pub gave_of : (n : ℕ) (e : Event) → is_of n e ≡ false → gives n e ≡ false
gave_of n (event.Gave m) o = o
gave_of n _ o = refl

-- it has no status of it
pub statuses_of : (n : ℕ) (e : Event) → is_of n e ≡ false → status_of n e ≡ None
statuses_of n (event.Ended m i c t) o = ap (λ b. if b then Some t else None) o
statuses_of n _ o = refl

-- it has no start of it
pub starts_of : (n : ℕ) (e : Event) → is_of n e ≡ false → start_of n e ≡ None
starts_of n (event.Started m i c) o = ap (λ b. if b then Some (i, c) else None) o
starts_of n _ o = refl

-- it has no reason of it
pub reasons_of : (n : ℕ) (e : Event) → is_of n e ≡ false → reason_in n e ≡ None
reasons_of n (event.Done m outcome.Well) o = refl
reasons_of n (event.Done m (outcome.Failed r)) o = ap (λ b. if b then Some r else None) o
reasons_of n _ o = refl

-- an event of another node, or of none, changes nothing of a node
pub others_stay : (h : List Event) (e : Event) (n : ℕ) → is_of n e ≡ false → IsSame h (h ++ e ∷ []) n
others_stay h e n o = record {
  in_body = in_body_stays h e n (took_of n e o) (gave_of n e o) (skipped_of n e o) (done_of n e o);
  is_open = is_open_stays h e n (took_of n e o) (gave_of n e o);
  running = running_stays h e n (started_of n e o) (ended_of n e o) (done_of n e o);
  took = any_none (takes n) h e (took_of n e o);
  gave = any_none (gives n) h e (gave_of n e o);
  begun = any_none (begins n) h e (begun_of n e o);
  skipped = any_none (skips n) h e (skipped_of n e o);
  done = any_none (concludes n) h e (done_of n e o);
  asked = any_none (asks n) h e (asked_of n e o);
  answered = λ w. any_none (answers w n) h e (answer_of w n e o);
  over_well = any_none (λ x. skips n x || concludes_well n x) h e (ap₂ (λ a b. a || b) (skipped_of n e o) (well_of n e o));
  failed = any_none (fails n) h e (failure_of n e o);
  starts = count_none (starts n) h e (started_of n e o);
  ends = count_none (ends n) h e (ended_of n e o);
  statuses = statuses_stay h e n (statuses_of n e o);
  last_start = last_start_stays h e n (starts_of n e o);
  reason_of = reason_stays h e n (reasons_of n e o);
}

-- an event without a status leaves the next step
pub next_step_stays : (nodes : List PlanNode) (h : List Event) (e : Event) (n : ℕ) → status_of n e ≡ None → next_step nodes (h ++ e ∷ []) n ≡ next_step nodes h n
next_step_stays nodes h e n q = ap (λ ts. after (work_at nodes n) ts) (statuses_stay h e n q)
