-- Legal, closed and complete histories of a run.
use Rattle.std.specs.Prelude.{ℕ, ◌≡◌, ◌+◌, ◌<◌, ◌&&◌, not, Bool, true, false, List, [], ◌∷◌, ◌++◌, length, Option, Some, MatchOption, count_by, ◌⊎◌, ◌≢◌}
use Rattle.std.specs.List.{range_with_len}
use Rattle.just_host_record.specs.declared.entry.Call.{Call}
use Rattle.just_host_record.specs.declared.entry.Call.TheVariants as call
use Rattle.just_sched_history.specs.declared.event.Event.{Event}
use Rattle.just_sched_history.specs.declared.event.Event.TheVariants as event
use Rattle.just_sched_history.specs.declared.event.Outcome.TheVariants as outcome
use Rattle.just_sched_history.specs.declared.event.Reason.{Reason}
use Rattle.just_sched_history.specs.declared.event.Reason.TheVariants as reason
use Rattle.just_sched_history.specs.declared.plan_node.PlanNode.{PlanNode}
use Rattle.just_exec_work.specs.declared.work.Step.{Step}
use Rattle.just_exec_work.specs.declared.work.Step.TheVariants as step
use Rattle.just_sched_history.specs.Nodes.{cache_at, paths_in, outputs_in}
use Rattle.just_sched_history.specs.Cached.{is_cached, is_looked_at, is_saved, saw_full, may_begin, owes_nothing, class_is_open}
use Rattle.just_sched_history.specs.State.{is_begun, is_over, is_done, is_open, is_running, answers, last_start, has_caught, next_step, IsToAsk, IsReady, IsFinished}
use Rattle.std.specs.List.{list_any}

-- what a run is of: the nodes of its plan and those that were asked for, the job limit if there is one, and how many
-- children the host had started before
pub record Run : Type 0 where
  pub nodes : List PlanNode
  pub invocations : List ℕ
  pub jobs : Option ℕ
  pub base : ℕ

-- the event that a node is due to have next
pub data Due : Type 0 where
  Asked : Due
  Looked : Due
  Begun : Due
  Started : ℕ → Due
  Ended : Due
  Saved : Due

-- the node is open, and neither skipped nor done
abbrev pub in_body : List Event → ℕ → Bool
in_body h n = is_open h n && not (is_over h n)

-- that event is the one that the node is due to have
abbrev pub IsDue : Run → List Event → ℕ → Due → Type 0
IsDue s h n Asked = IsToAsk s.nodes s.invocations h n
IsDue s h n Looked = (in_body h n ≡ true) × (is_cached s.nodes n ≡ true) × (is_looked_at h n ≡ false)
IsDue s h n Begun = (in_body h n ≡ true) × (is_begun h n ≡ false) × (may_begin s.nodes h n ≡ true)
IsDue s h n (Started i) = (in_body h n ≡ true) × (is_begun h n ≡ true) × (is_running h n ≡ false) × (next_step s.nodes h n ≡ step.Start i)
IsDue s h n Ended = (in_body h n ≡ true) × (is_running h n ≡ true)
IsDue s h n Saved = (in_body h n ≡ true) × (is_begun h n ≡ true) × (is_running h n ≡ false) × (next_step s.nodes h n ≡ step.Well) × (is_cached s.nodes n ≡ true) × (is_saved h n ≡ false)

-- how many bodies are open
abbrev pub open_bodies : Run → List Event → ℕ
open_bodies s h = count_by (λ n. is_open h n) (range_with_len 0 (length s.nodes))

abbrev pub is_start : Event → Bool
is_start (event.Started n i c) = true
is_start (event.Asked m y) = false
is_start (event.Took m) = false
is_start (event.Looked m sums seen) = false
is_start (event.Skipped m) = false
is_start (event.Begun m) = false
is_start (event.Ended m i c s) = false
is_start (event.Saved m) = false
is_start (event.Done m o) = false
is_start (event.Gave m) = false
is_start (event.Caught s) = false

-- how many commands were started so far
abbrev pub all_starts : List Event → ℕ
all_starts h = count_by is_start h

-- a call of the host that the node's due event makes, at which a miss ends the body
abbrev pub MayMiss : Run → List Event → ℕ → Call → Type 0
MayMiss s h n call.Ask = IsDue s h n Asked
MayMiss s h n call.Probe = IsDue s h n Looked
MayMiss s h n call.Temp = (i : ℕ) × IsDue s h n (Started i)
MayMiss s h n call.Check = IsDue s h n Saved
MayMiss s h n call.Save = IsDue s h n Saved
MayMiss s h n call.Meta = ⊥
MayMiss s h n call.List = ⊥
MayMiss s h n call.Canonical = ⊥
MayMiss s h n call.Link = ⊥
MayMiss s h n call.Current = ⊥
MayMiss s h n call.Read = ⊥
MayMiss s h n call.Input = ⊥
MayMiss s h n call.Environ = ⊥
MayMiss s h n call.Write = ⊥
MayMiss s h n call.MakeFolder = ⊥
MayMiss s h n call.Remove = ⊥
MayMiss s h n call.Print = ⊥
MayMiss s h n call.Sum = ⊥
MayMiss s h n call.Start = ⊥
MayMiss s h n call.Wait = ⊥
MayMiss s h n call.Capture = ⊥

-- a call of the host that the node's due event makes, and that may fail
abbrev pub MayFail : Run → List Event → ℕ → Call → Type 0
MayFail s h n call.Ask = IsDue s h n Asked
MayFail s h n call.Sum = IsDue s h n Looked
MayFail s h n call.Probe = IsDue s h n Looked
MayFail s h n call.Print = IsDue s h n Begun ⊎ ((i : ℕ) × IsDue s h n (Started i))
MayFail s h n call.Temp = (i : ℕ) × IsDue s h n (Started i)
MayFail s h n call.Start = (i : ℕ) × IsDue s h n (Started i)
MayFail s h n call.Wait = IsDue s h n Ended
MayFail s h n call.Check = IsDue s h n Saved
MayFail s h n call.Save = IsDue s h n Saved
MayFail s h n call.Meta = ⊥
MayFail s h n call.List = ⊥
MayFail s h n call.Canonical = ⊥
MayFail s h n call.Link = ⊥
MayFail s h n call.Current = ⊥
MayFail s h n call.Read = ⊥
MayFail s h n call.Input = ⊥
MayFail s h n call.Environ = ⊥
MayFail s h n call.Write = ⊥
MayFail s h n call.MakeFolder = ⊥
MayFail s h n call.Remove = ⊥
MayFail s h n call.Capture = ⊥

-- The node's body has come to its end, which is this by the statuses so far: it was begun, it is between two commands, it
-- isn't done, and this is its next step.
pub record IsAtEnd (s : Run) (h : List Event) (n : ℕ) (how : Step) : Type 0 where
  pub begun : is_begun h n ≡ true
  pub between_commands : is_running h n ≡ false
  pub not_done : is_done h n ≡ false
  pub next : next_step s.nodes h n ≡ how

-- when a node's body may fail for that reason
abbrev pub MayFailBy : Run → List Event → ℕ → Reason → Type 0
MayFailBy s h n reason.Status = IsAtEnd s h n step.Failed
MayFailBy s h n reason.NotConfirmed = (list_any (answers false n) h ≡ true) × (is_done h n ≡ false)
MayFailBy s h n (reason.Input j m) = IsDue s h n Looked × (j < length (paths_in (cache_at s.nodes n)))
MayFailBy s h n (reason.Output j) = IsDue s h n Saved × (j < length (outputs_in (cache_at s.nodes n)))
MayFailBy s h n (reason.Place c m) = MayMiss s h n c
MayFailBy s h n (reason.Fault c) = MayFail s h n c
MayFailBy s h n reason.Interrupted = ((i : ℕ) × IsDue s h n (Started i)) × (has_caught h ≡ true)
MayFailBy s h n reason.NoMemory = (d : Due) × IsDue s h n d × (d ≢ Ended)

-- each event has its condition on the history before it
abbrev pub May : Run → List Event → Event → Type 0
May s h (event.Asked n y) = IsDue s h n Asked × (has_caught h ≡ false)
May s h (event.Took n) = IsReady s.nodes s.invocations h n × (has_caught h ≡ false) × MatchOption s.jobs (Unit {0}) (λ j. open_bodies s h < j) × (class_is_open s.nodes h n ≡ false)
May s h (event.Looked n sums seen) = IsDue s h n Looked × (length sums ≡ length (paths_in (cache_at s.nodes n)))
May s h (event.Skipped n) = (in_body h n ≡ true) × (saw_full s.nodes h n ≡ true)
May s h (event.Begun n) = IsDue s h n Begun
May s h (event.Started n i c) = IsDue s h n (Started i) × (has_caught h ≡ false) × (c ≡ s.base + all_starts h)
May s h (event.Ended n i c status) = IsDue s h n Ended × (last_start h n ≡ Some (i, c))
May s h (event.Saved n) = IsDue s h n Saved
May s h (event.Done n outcome.Well) = IsAtEnd s h n step.Well × (owes_nothing s.nodes h n ≡ true)
May s h (event.Done n (outcome.Failed r)) = MayFailBy s h n r
May s h (event.Gave n) = (is_open h n ≡ true) × (is_over h n ≡ true)
May s h (event.Caught signal) = has_caught h ≡ false

-- each of these events, behind those before, has its condition
abbrev pub LegalFrom : Run → List Event → List Event → Type 0
LegalFrom s before [] = Unit {0}
LegalFrom s before (e ∷ es) = May s before e × LegalFrom s (before ++ e ∷ []) es

-- a history each of whose events has its condition on the part before it
abbrev pub IsLegal : Run → List Event → Type 0
IsLegal s h = LegalFrom s [] h

-- no body is open
abbrev pub IsClosed : Run → List Event → Type 0
IsClosed s h = (n : ℕ) → n < length s.nodes → is_open h n ≡ false

-- closed, and every node of the plan is finished
pub record IsComplete (s : Run) (h : List Event) : Type 0 where
  pub closed : IsClosed s h
  pub all_finished : (n : ℕ) → n < length s.nodes → IsFinished s.nodes h n
