-- How many events and settled children a run can have at most.
use Rattle.std.specs.Prelude.{ℕ, ◌+◌, ◌*◌, Bool, true, false, List, length, sum_by, count_by}
use Rattle.just_host_record.specs.declared.entry.Call.TheVariants as call
use Rattle.just_sched_history.specs.declared.event.Event.{Event}
use Rattle.just_sched_history.specs.declared.event.Event.TheVariants as event
use Rattle.just_sched_history.specs.declared.event.Outcome.TheVariants as outcome
use Rattle.just_sched_history.specs.declared.event.Reason.TheVariants as reason
use Rattle.just_sched_history.specs.declared.plan_node.PlanNode.{PlanNode}
use Rattle.just_exec_work.specs.Steps.{commands_of}

-- as many events as a legal history can have: a caught signal, and for each node the start and the end of each of its
-- commands and at most eight events more
unfoldable pub slots : List PlanNode → ℕ
slots nodes = sum_by (λ x. 8 + 2 * length (commands_of x.work)) nodes + 1

-- how many commands the bodies have together
unfoldable pub total_commands : List PlanNode → ℕ
total_commands nodes = sum_by (λ x. length (commands_of x.work)) nodes

-- whether the event settled a child: a command's end, or the failure to wait for it
abbrev pub settles : Event → Bool
settles (event.Ended n i c s) = true
settles (event.Done n (outcome.Failed (reason.Fault call.Wait))) = true
settles (event.Done n (outcome.Failed (reason.Fault call.Meta))) = false
settles (event.Done n (outcome.Failed (reason.Fault call.List))) = false
settles (event.Done n (outcome.Failed (reason.Fault call.Canonical))) = false
settles (event.Done n (outcome.Failed (reason.Fault call.Link))) = false
settles (event.Done n (outcome.Failed (reason.Fault call.Current))) = false
settles (event.Done n (outcome.Failed (reason.Fault call.Read))) = false
settles (event.Done n (outcome.Failed (reason.Fault call.Input))) = false
settles (event.Done n (outcome.Failed (reason.Fault call.Ask))) = false
settles (event.Done n (outcome.Failed (reason.Fault call.Environ))) = false
settles (event.Done n (outcome.Failed (reason.Fault call.Write))) = false
settles (event.Done n (outcome.Failed (reason.Fault call.MakeFolder))) = false
settles (event.Done n (outcome.Failed (reason.Fault call.Temp))) = false
settles (event.Done n (outcome.Failed (reason.Fault call.Remove))) = false
settles (event.Done n (outcome.Failed (reason.Fault call.Print))) = false
settles (event.Done n (outcome.Failed (reason.Fault call.Sum))) = false
settles (event.Done n (outcome.Failed (reason.Fault call.Probe))) = false
settles (event.Done n (outcome.Failed (reason.Fault call.Check))) = false
settles (event.Done n (outcome.Failed (reason.Fault call.Save))) = false
settles (event.Done n (outcome.Failed (reason.Fault call.Start))) = false
settles (event.Done n (outcome.Failed (reason.Fault call.Capture))) = false
settles (event.Done n (outcome.Failed reason.Status)) = false
settles (event.Done n (outcome.Failed reason.NotConfirmed)) = false
settles (event.Done n (outcome.Failed (reason.Input j m))) = false
settles (event.Done n (outcome.Failed (reason.Output j))) = false
settles (event.Done n (outcome.Failed (reason.Place c m))) = false
settles (event.Done n (outcome.Failed reason.Interrupted)) = false
settles (event.Done n (outcome.Failed reason.NoMemory)) = false
settles (event.Done n outcome.Well) = false
settles (event.Asked m y) = false
settles (event.Took m) = false
settles (event.Looked m sums seen) = false
settles (event.Skipped m) = false
settles (event.Begun m) = false
settles (event.Started m i c) = false
settles (event.Saved m) = false
settles (event.Gave m) = false
settles (event.Caught s) = false

-- how many children were settled
abbrev pub settle_count : List Event → ℕ
settle_count h = count_by settles h
