-- What just_sched_history offers to the proofs of the crates above: laws of histories, of records that they match, and of runs.
use Rattle.std.proofs.Common.{◌≡◌, ◌≢◌, ◌-◌, ◌<◌, ℕ, true, false, Contains, List, [], length, slice_get, Option, Some, None, ℤ, pos}
use Rattle.std.specs.Prelude.{slice_index_or}
use Rattle.std.specs.List.{list_any, last_or}
use Rattle.just_path.specs.declared.host.Miss.{Miss}
use Rattle.just_host_record.specs.declared.entry.Call.{Call}
use Rattle.just_host_record.specs.declared.entry.Entry.{Entry}
use Rattle.just_host_record.specs.declared.entry.Entry.TheVariants as entry
use Rattle.just_host_record.specs.declared.entry.Status.{Status}
use Rattle.just_host_record.specs.declared.entry.Status.TheVariants as status
use Rattle.just_host_record.specs.declared.signal.Signal.{Signal}
use Rattle.just_host_record.specs.Record.{children, is_started}
use Rattle.just_sched_history.specs.declared.event.Event.{Event}
use Rattle.just_sched_history.specs.declared.event.Reason.TheVariants as reason
use Rattle.just_exec_work.specs.declared.work.Command.{Command}
use Rattle.just_exec_work.specs.declared.work.Step.TheVariants as step
use Rattle.just_exec_work.specs.declared.work.Work.{Work}
use Rattle.just_sched_history.specs.Nodes.{cache_at, paths_in, outputs_in}
use Rattle.just_sched_history.specs.Causes.{ShowsFailure, ShowsMiss, ShowsRefusal, EndedLast}
use Rattle.just_host_record.specs.World.{World}
use Rattle.just_sched_history.specs.declared.plan_node.PlanNode.{PlanNode}
use Rattle.just_sched_history.specs.CacheRule.{GoesByCacheRule, IsSkippedByLook}
use Rattle.just_sched_history.specs.Cached.{is_cached, are_one_class}
use Rattle.just_sched_history.specs.Effects.{IsMadeBy}
use Rattle.just_sched_history.specs.Touched.{IsTouched, IsTouchedAt}
use Rattle.just_sched_history.specs.Legal.{Run, IsLegal, IsComplete, all_starts}
use Rattle.just_sched_history.specs.Match.{Matches}
use Rattle.just_sched_history.specs.Moves.{GrowsBy, GrowsOrCatches, IsMove, RunsWith, Rests}
use Rattle.just_sched_history.specs.State.{statuses, reason_of, next_step, caught_signal, is_open}
use Rattle.just_exec_work.specs.Steps.{after, commands_of}
use Rattle.just_sched_history.proofs.CacheCauses.{input_shown, output_shown}
use Rattle.just_sched_history.proofs.CacheRules.{each_apart, goes_by_rule, skipped_by_look}
use Rattle.just_sched_history.proofs.Touching.{made_touched, touched_told}
use Rattle.just_sched_history.proofs.Causes.{last_end, status_failed, failed_code, guard_code, fault_caused, miss_caused, refusal_caused, signal_shown}
use Rattle.just_sched_history.proofs.Grows.{grows_turn, move_apart, runs_on, others_open, closed_where}
use Rattle.just_sched_history.proofs.Stretch.{matched_children, started}

-- The last status of a node is that of a child which the node started, and whose end the record shows.
pub last_status_shown : (s : Run) (h : List Event) (es : List Entry) (n : ℕ) (t : Status) → IsLegal s h → Matches s h es → last_or None (statuses h n) ≡ Some t → EndedLast h es n t
last_status_shown = last_end

-- A node whose body failed by its statuses: after these statuses the body fails.
pub failed_by_statuses : (s : Run) (h : List Event) (n : ℕ) → IsLegal s h → reason_of h n ≡ Some reason.Status → next_step s.nodes h n ≡ step.Failed
failed_by_statuses = status_failed

-- The code behind which a body fails isn't 0.
pub failing_code : (w : Work) (ts : List Status) (z : ℤ) → after w ts ≡ step.Failed → last_or None ts ≡ Some (status.Code z) → z ≡ pos 0 → ⊥
failing_code = failed_code

-- A guard's code by which its body fails isn't 1.
pub failing_guard : (w : Work) (ts : List Status) (z : ℤ) (c : Command) → slice_get (commands_of w) (length ts - 1) ≡ Some c → c.guard ≡ true → after w ts ≡ step.Failed → last_or None ts ≡ Some (status.Code z) → z ≡ pos 1 → ⊥
failing_guard = guard_code

-- Where a node's body failed by a call of the host, the record shows that the call failed.
pub failed_call_shown : (s : Run) (h : List Event) (es : List Entry) (n : ℕ) (c : Call) → Matches s h es → reason_of h n ≡ Some (reason.Fault c) → ShowsFailure c es
failed_call_shown = fault_caused

-- Where a node's body failed by a miss, the record shows that miss.
pub missed_call_shown : (s : Run) (h : List Event) (es : List Entry) (n : ℕ) (c : Call) (m : Miss) → Matches s h es → reason_of h n ≡ Some (reason.Place c m) → ShowsMiss m es
missed_call_shown = miss_caused

-- Where a node's body failed by a miss of an input, the record shows that miss on the input's path.
pub missed_input_shown : (s : Run) (h : List Event) (es : List Entry) (n j : ℕ) (m : Miss) → Matches s h es → reason_of h n ≡ Some (reason.Input j m) → Contains es (entry.Missed (slice_index_or (paths_in (cache_at s.nodes n)) j []) m)
missed_input_shown = input_shown

-- Where it failed since an output isn't there, the record shows the check that said so.
pub missing_output_shown : (s : Run) (h : List Event) (es : List Entry) (n j : ℕ) → Matches s h es → reason_of h n ≡ Some (reason.Output j) → Contains es (entry.Checked (outputs_in (cache_at s.nodes n)) (Some j))
missing_output_shown = output_shown

-- Where a node failed since it wasn't confirmed, the record shows an answer to a prompt that is no yes.
pub refusal_shown : (s : Run) (h : List Event) (es : List Entry) (n : ℕ) → IsLegal s h → Matches s h es → reason_of h n ≡ Some reason.NotConfirmed → ShowsRefusal es
refusal_shown = refusal_caused

-- Where the history caught a signal, the record shows it.
pub caught_signal_shown : (s : Run) (h : List Event) (es : List Entry) (g : Signal) → Matches s h es → caught_signal h ≡ Some g → Contains es (entry.Signalled g)
caught_signal_shown = signal_shown

-- A record that a history matches has a child for each command that the history starts.
pub children_are_starts : (s : Run) (h : List Event) (es : List Entry) → Matches s h es → children es ≡ all_starts h
children_are_starts = matched_children

-- So where it shows no child, the history starts no command.
pub nothing_started : (s : Run) (h : List Event) (es : List Entry) → Matches s h es → list_any is_started es ≡ false → all_starts h ≡ 0
nothing_started = started

-- A move of `next` takes a node with no open body: it is another than each that runs.
pub moves_another : (s : Run) (old new : List Event) (n m child : ℕ) → IsMove s old new n → RunsWith old m child → m ≢ n
moves_another = move_apart

-- A body runs on with its child while events of another node are noted.
pub body_runs_on : (old new : List Event) (n m child : ℕ) → GrowsOrCatches old new n → m ≢ n → RunsWith old m child → RunsWith new m child
body_runs_on = runs_on

-- Events of a node leave every other node as open as it was.
pub others_stay_open : (old new : List Event) (n m : ℕ) → GrowsOrCatches old new n → m ≢ n → is_open new m ≡ is_open old m
others_stay_open = others_open

-- Where a node came to rest, the nodes are closed that were closed but for it.
pub rests_closed : (Q : ℕ → Type 0) (old new : List Event) (n : ℕ) → GrowsOrCatches old new n → Rests new n → ((m : ℕ) → m ≢ n → Q m → is_open old m ≡ false) → (m : ℕ) → Q m → is_open new m ≡ false
rests_closed = closed_where

-- A turn of a body is of its node: its child's end was noted, and the body was gone on with.
pub turn_grows : (a b c : List Event) (n m k : ℕ) → m ≡ n → k ≡ m → GrowsBy a b m → GrowsOrCatches b c k → GrowsOrCatches a c n
turn_grows = grows_turn

-- What the events of a history make of a told world touches entries of the nodes' caches alone.
pub made_touches : (s : Run) (h : List Event) (told new : Option World) → IsMadeBy s h told new → IsTouched s.nodes told new
made_touches = made_touched

-- What a run that started no child, and of which no call failed, leaves of a told world: it differs at most at the places of its caches.
pub untouched_but_caches : (nodes : List PlanNode) (told new : Option World) → IsTouched nodes told new → IsTouchedAt nodes told new
untouched_but_caches = touched_told

-- No two open bodies of a legal history are of one class.
pub open_apart : (s : Run) (h : List Event) → IsLegal s h → (m n : ℕ) → (m ≡ n → ⊥) → is_open h m ≡ true → is_open h n ≡ true → are_one_class s.nodes m n ≡ false
open_apart = each_apart

-- Each cached body of a legal history goes by the cache rule.
pub cache_rule : (s : Run) (h : List Event) (n : ℕ) → IsLegal s h → is_cached s.nodes n ≡ true → GoesByCacheRule s h n
cache_rule = goes_by_rule

-- In a complete history it is skipped exactly where its look was full, and else begun.
pub cache_rule_complete : (s : Run) (h : List Event) (n : ℕ) → IsLegal s h → IsComplete s h → n < length s.nodes → IsSkippedByLook s.nodes h n
cache_rule_complete = skipped_by_look
