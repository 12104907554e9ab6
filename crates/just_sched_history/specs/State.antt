-- The states of a node over a history: a list of events, the oldest first.
use Rattle.std.specs.Prelude.{ℕ, ◌<◌, length, slice_index, Contains, ◌≡◌, ◌==◌, ◌&&◌, ◌||◌, not, nat_lt, Bool, true, false, if◌then◌else◌, List, [], ◌∷◌, Option, Some, None, is_none, is_some, count_by, filter_map, ◌⊎◌}
use Rattle.std.specs.List.{list_any, last_or}
use Rattle.just_host_record.specs.declared.entry.Status.{Status}
use Rattle.just_host_record.specs.declared.signal.Signal.{Signal}
use Rattle.just_sched_history.specs.declared.event.Event.{Event}
use Rattle.just_sched_history.specs.declared.event.Event.TheVariants as event
use Rattle.just_sched_history.specs.declared.event.Outcome.TheVariants as outcome
use Rattle.just_sched_history.specs.declared.event.Reason.{Reason}
use Rattle.just_sched_history.specs.declared.plan_node.PlanNode.{PlanNode}
use Rattle.just_exec_work.specs.declared.work.Step.{Step}
use Rattle.just_exec_work.specs.Steps.{after}
use Rattle.just_sched_history.specs.Nodes.{priors_at, subsequents_at, parallel_at, prompt_at, work_at}

-- ---- the node of an event

-- the node that the event is one of; none for a caught signal
abbrev pub node_of : Event → Option ℕ
node_of (event.Asked n y) = Some n
node_of (event.Took n) = Some n
node_of (event.Looked n sums look) = Some n
node_of (event.Skipped n) = Some n
node_of (event.Begun n) = Some n
node_of (event.Started n i c) = Some n
node_of (event.Ended n i c s) = Some n
node_of (event.Saved n) = Some n
node_of (event.Done n o) = Some n
node_of (event.Gave n) = Some n
node_of (event.Caught s) = None

-- the number is n
abbrev pub names : Option ℕ → ℕ → Bool
names None n = false
names (Some m) n = m == n

-- the event is one of the node
abbrev pub is_of : ℕ → Event → Bool
is_of n e = names (node_of e) n

-- ---- tests of one event, for the node n

abbrev pub answers : Bool → ℕ → Event → Bool
answers wanted n (event.Asked m y) = (m == n) && (if wanted then y else not y)
answers wanted n (event.Took m) = false
answers wanted n (event.Looked m sums seen) = false
answers wanted n (event.Skipped m) = false
answers wanted n (event.Begun m) = false
answers wanted n (event.Started m i c) = false
answers wanted n (event.Ended m i c s) = false
answers wanted n (event.Saved m) = false
answers wanted n (event.Done m o) = false
answers wanted n (event.Gave m) = false
answers wanted n (event.Caught s) = false

abbrev pub asks : ℕ → Event → Bool
asks n (event.Asked m y) = m == n
asks n (event.Took m) = false
asks n (event.Looked m sums seen) = false
asks n (event.Skipped m) = false
asks n (event.Begun m) = false
asks n (event.Started m i c) = false
asks n (event.Ended m i c s) = false
asks n (event.Saved m) = false
asks n (event.Done m o) = false
asks n (event.Gave m) = false
asks n (event.Caught s) = false

abbrev pub takes : ℕ → Event → Bool
takes n (event.Took m) = m == n
takes n (event.Asked m y) = false
takes n (event.Looked m sums seen) = false
takes n (event.Skipped m) = false
takes n (event.Begun m) = false
takes n (event.Started m i c) = false
takes n (event.Ended m i c s) = false
takes n (event.Saved m) = false
takes n (event.Done m o) = false
takes n (event.Gave m) = false
takes n (event.Caught s) = false

abbrev pub skips : ℕ → Event → Bool
skips n (event.Skipped m) = m == n
skips n (event.Asked m y) = false
skips n (event.Took m) = false
skips n (event.Looked m sums seen) = false
skips n (event.Begun m) = false
skips n (event.Started m i c) = false
skips n (event.Ended m i c s) = false
skips n (event.Saved m) = false
skips n (event.Done m o) = false
skips n (event.Gave m) = false
skips n (event.Caught s) = false

abbrev pub begins : ℕ → Event → Bool
begins n (event.Begun m) = m == n
begins n (event.Asked m y) = false
begins n (event.Took m) = false
begins n (event.Looked m sums seen) = false
begins n (event.Skipped m) = false
begins n (event.Started m i c) = false
begins n (event.Ended m i c s) = false
begins n (event.Saved m) = false
begins n (event.Done m o) = false
begins n (event.Gave m) = false
begins n (event.Caught s) = false

abbrev pub starts : ℕ → Event → Bool
starts n (event.Started m i c) = m == n
starts n (event.Asked m y) = false
starts n (event.Took m) = false
starts n (event.Looked m sums seen) = false
starts n (event.Skipped m) = false
starts n (event.Begun m) = false
starts n (event.Ended m i c s) = false
starts n (event.Saved m) = false
starts n (event.Done m o) = false
starts n (event.Gave m) = false
starts n (event.Caught s) = false

abbrev pub ends : ℕ → Event → Bool
ends n (event.Ended m i c s) = m == n
ends n (event.Asked m y) = false
ends n (event.Took m) = false
ends n (event.Looked m sums seen) = false
ends n (event.Skipped m) = false
ends n (event.Begun m) = false
ends n (event.Started m i c) = false
ends n (event.Saved m) = false
ends n (event.Done m o) = false
ends n (event.Gave m) = false
ends n (event.Caught s) = false

abbrev pub concludes : ℕ → Event → Bool
concludes n (event.Done m o) = m == n
concludes n (event.Asked m y) = false
concludes n (event.Took m) = false
concludes n (event.Looked m sums seen) = false
concludes n (event.Skipped m) = false
concludes n (event.Begun m) = false
concludes n (event.Started m i c) = false
concludes n (event.Ended m i c s) = false
concludes n (event.Saved m) = false
concludes n (event.Gave m) = false
concludes n (event.Caught s) = false

abbrev pub concludes_well : ℕ → Event → Bool
concludes_well n (event.Done m outcome.Well) = m == n
concludes_well n (event.Done m (outcome.Failed r)) = false
concludes_well n (event.Asked m y) = false
concludes_well n (event.Took m) = false
concludes_well n (event.Looked m sums seen) = false
concludes_well n (event.Skipped m) = false
concludes_well n (event.Begun m) = false
concludes_well n (event.Started m i c) = false
concludes_well n (event.Ended m i c s) = false
concludes_well n (event.Saved m) = false
concludes_well n (event.Gave m) = false
concludes_well n (event.Caught s) = false

abbrev pub fails : ℕ → Event → Bool
fails n (event.Done m outcome.Well) = false
fails n (event.Done m (outcome.Failed r)) = m == n
fails n (event.Asked m y) = false
fails n (event.Took m) = false
fails n (event.Looked m sums seen) = false
fails n (event.Skipped m) = false
fails n (event.Begun m) = false
fails n (event.Started m i c) = false
fails n (event.Ended m i c s) = false
fails n (event.Saved m) = false
fails n (event.Gave m) = false
fails n (event.Caught s) = false

abbrev pub gives : ℕ → Event → Bool
gives n (event.Gave m) = m == n
gives n (event.Asked m y) = false
gives n (event.Took m) = false
gives n (event.Looked m sums seen) = false
gives n (event.Skipped m) = false
gives n (event.Begun m) = false
gives n (event.Started m i c) = false
gives n (event.Ended m i c s) = false
gives n (event.Saved m) = false
gives n (event.Done m o) = false
gives n (event.Caught s) = false

abbrev pub catches : Event → Bool
catches (event.Caught s) = true
catches (event.Asked m y) = false
catches (event.Took m) = false
catches (event.Looked m sums seen) = false
catches (event.Skipped m) = false
catches (event.Begun m) = false
catches (event.Started m i c) = false
catches (event.Ended m i c s) = false
catches (event.Saved m) = false
catches (event.Done m o) = false
catches (event.Gave m) = false

abbrev pub status_of : ℕ → Event → Option Status
status_of n (event.Ended m i c s) = if m == n then Some s else None
status_of n (event.Asked m y) = None
status_of n (event.Took m) = None
status_of n (event.Looked m sums seen) = None
status_of n (event.Skipped m) = None
status_of n (event.Begun m) = None
status_of n (event.Started m i c) = None
status_of n (event.Saved m) = None
status_of n (event.Done m o) = None
status_of n (event.Gave m) = None
status_of n (event.Caught s) = None

-- the place and the child that a Started event of the node has
abbrev pub start_of : ℕ → Event → Option (ℕ × ℕ)
start_of n (event.Started m i c) = if m == n then Some (i, c) else None
start_of n (event.Asked m y) = None
start_of n (event.Took m) = None
start_of n (event.Looked m sums seen) = None
start_of n (event.Skipped m) = None
start_of n (event.Begun m) = None
start_of n (event.Ended m i c s) = None
start_of n (event.Saved m) = None
start_of n (event.Done m o) = None
start_of n (event.Gave m) = None
start_of n (event.Caught s) = None

abbrev pub reason_in : ℕ → Event → Option Reason
reason_in n (event.Done m (outcome.Failed r)) = if m == n then Some r else None
reason_in n (event.Done m outcome.Well) = None
reason_in n (event.Asked m y) = None
reason_in n (event.Took m) = None
reason_in n (event.Looked m sums seen) = None
reason_in n (event.Skipped m) = None
reason_in n (event.Begun m) = None
reason_in n (event.Started m i c) = None
reason_in n (event.Ended m i c s) = None
reason_in n (event.Saved m) = None
reason_in n (event.Gave m) = None
reason_in n (event.Caught s) = None

abbrev pub signal_in : Event → Option Signal
signal_in (event.Caught s) = Some s
signal_in (event.Asked m y) = None
signal_in (event.Took m) = None
signal_in (event.Looked m sums seen) = None
signal_in (event.Skipped m) = None
signal_in (event.Begun m) = None
signal_in (event.Started m i c) = None
signal_in (event.Ended m i c s) = None
signal_in (event.Saved m) = None
signal_in (event.Done m o) = None
signal_in (event.Gave m) = None

-- ---- the states

-- the node's body took a job
abbrev pub has_taken : List Event → ℕ → Bool
has_taken h n = list_any (takes n) h

abbrev pub has_given : List Event → ℕ → Bool
has_given h n = list_any (gives n) h

abbrev pub is_begun : List Event → ℕ → Bool
is_begun h n = list_any (begins n) h

abbrev pub is_skipped : List Event → ℕ → Bool
is_skipped h n = list_any (skips n) h

abbrev pub is_done : List Event → ℕ → Bool
is_done h n = list_any (concludes n) h

-- its body was skipped, or is done
abbrev pub is_over : List Event → ℕ → Bool
is_over h n = is_skipped h n || is_done h n

abbrev pub is_asked : List Event → ℕ → Bool
is_asked h n = list_any (asks n) h

-- it was skipped, or its body ended well
abbrev pub is_over_well : List Event → ℕ → Bool
is_over_well h n = list_any (λ e. skips n e || concludes_well n e) h

abbrev pub has_failed : List Event → ℕ → Bool
has_failed h n = list_any (fails n) h

-- its prompt, if it has one, was answered by a yes
abbrev pub is_confirmed : List PlanNode → List Event → ℕ → Bool
is_confirmed nodes h n = is_none (prompt_at nodes n) || list_any (answers true n) h

-- its body took a job and hasn't given it back
abbrev pub is_open : List Event → ℕ → Bool
is_open h n = has_taken h n && not (has_given h n)

-- how many of its commands were started, and how many have ended
abbrev pub start_count : List Event → ℕ → ℕ
start_count h n = count_by (starts n) h

abbrev pub end_count : List Event → ℕ → ℕ
end_count h n = count_by (ends n) h

-- one of its commands was started and hasn't ended, and its body isn't done
abbrev pub is_running : List Event → ℕ → Bool
is_running h n = nat_lt (end_count h n) (start_count h n) && not (is_done h n)

-- the statuses of its commands that have ended, in order
abbrev pub statuses : List Event → ℕ → List Status
statuses h n = filter_map (status_of n) h

-- the command that it started last, and that command's child
abbrev pub last_start : List Event → ℕ → Option (ℕ × ℕ)
last_start h n = last_or None (filter_map (start_of n) h)

-- the first of a list
abbrev pub first : {A : Type 0} → List A → Option A
first [] = None
first (x ∷ xs) = Some x

-- the reason of its failure, if it failed
abbrev pub reason_of : List Event → ℕ → Option Reason
reason_of h n = first (filter_map (reason_in n) h)

-- a signal was caught
abbrev pub has_caught : List Event → Bool
has_caught h = list_any catches h

-- the signal that was caught first
abbrev pub caught_signal : List Event → Option Signal
caught_signal h = first (filter_map signal_in h)

-- what its body does next, by the statuses so far
abbrev pub next_step : List PlanNode → List Event → ℕ → Step
next_step nodes h n = after (work_at nodes n) (statuses h n)

-- n stands in the list, and each that stands before it is as asked, or needn't be
abbrev pub MayComeNext : (ℕ → Type 0) → Bool → List ℕ → ℕ → Type 0
MayComeNext F together xs n = (k : ℕ) × (k < length xs) × (slice_index xs k ≡ n) × ((together ≡ true) ⊎ ((j : ℕ) → j < k → F (slice_index xs j)))

-- it is over well, and all its subsequents are finished
pub data IsFinished (nodes : List PlanNode) (h : List Event) : ℕ → Type 0 where
  finished : (n : ℕ) → is_over_well h n ≡ true → ((q : ℕ) → Contains (subsequents_at nodes n) q → IsFinished nodes h q) → IsFinished nodes h n

-- it is an invocation whose earlier invocations are finished; or a prior of a wanted and confirmed node, or a subsequent
-- of a node that is over well, where that node is parallel or its earlier priors or subsequents are finished
pub data IsWanted (nodes : List PlanNode) (invocations : List ℕ) (h : List Event) : ℕ → Type 0 where
  invoked : (n : ℕ) → MayComeNext (IsFinished nodes h) false invocations n → IsWanted nodes invocations h n
  prior : (m n : ℕ) → IsWanted nodes invocations h m → is_confirmed nodes h m ≡ true → MayComeNext (IsFinished nodes h) (parallel_at nodes m) (priors_at nodes m) n → IsWanted nodes invocations h n
  subsequent : (m n : ℕ) → is_over_well h m ≡ true → MayComeNext (IsFinished nodes h) (parallel_at nodes m) (subsequents_at nodes m) n → IsWanted nodes invocations h n

-- it is wanted and has a prompt, which wasn't asked yet
pub record IsToAsk (nodes : List PlanNode) (invocations : List ℕ) (h : List Event) (n : ℕ) : Type 0 where
  pub wanted : IsWanted nodes invocations h n
  pub prompted : is_some (prompt_at nodes n) ≡ true
  pub not_asked : is_asked h n ≡ false
  pub not_done : is_done h n ≡ false

-- it is wanted and confirmed, its priors are finished, and it took no job yet
pub record IsReady (nodes : List PlanNode) (invocations : List ℕ) (h : List Event) (n : ℕ) : Type 0 where
  pub wanted : IsWanted nodes invocations h n
  pub confirmed : is_confirmed nodes h n ≡ true
  pub priors : (q : ℕ) → Contains (priors_at nodes n) q → IsFinished nodes h q
  pub not_taken : has_taken h n ≡ false
  pub not_done : is_done h n ≡ false

-- it may go on: it is ready or to be asked
abbrev pub IsDueNext : List PlanNode → List ℕ → List Event → ℕ → Type 0
IsDueNext nodes invocations h n = IsReady nodes invocations h n ⊎ IsToAsk nodes invocations h n
