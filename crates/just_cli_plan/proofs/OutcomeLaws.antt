-- What just_cli_plan offers to the proofs of the crates above: the record shows the error of a run.
use Rattle.std.proofs.Common.{◌≡◌, Bool, true, List, Some, Contains}
use Rattle.just_host_record.specs.declared.entry.Entry.{Entry}
use Rattle.just_sched_history.specs.declared.event.Event.{Event}
use Rattle.just_sched_history.specs.declared.event.Verdict.{Verdict}
use Rattle.just_sched_history.specs.declared.plan_node.PlanNode.{PlanNode}
use Rattle.just_sched_history.specs.Favourable.{is_favourable, IsFavourable}
use Rattle.just_sched_history.specs.Legal.{Run, IsLegal}
use Rattle.just_sched_history.specs.Match.{Matches}
use Rattle.just_sched_history.specs.Verdict.{IsVerdict}
use Rattle.just_exec.specs.declared.error.Error.{Error}
use Rattle.just_exec.specs.declared.error.Error.TheVariants as error
use Rattle.just_cli_plan.specs.Caused.{IsCaused}
use Rattle.just_cli_plan.specs.Outcome.{IsErrorFor}
use Rattle.just_cli_plan.proofs.Caused.{caused, memory_alone, memory_left}

-- A record that a legal history matches shows the error of the history's verdict.
pub error_caused : (s : Run) (h : List Event) (es : List Entry) → IsLegal s h → Matches s h es → (messages : List Bool) (v : Verdict) (e : Error) → IsVerdict s h v → IsErrorFor s.nodes messages h v (Some e) → IsCaused s.nodes h e es
error_caused = caused

-- A record in which nothing stood against the run shows no error but want of memory.
pub only_memory : (nodes : List PlanNode) (h : List Event) (e : Error) (es : List Entry) → IsCaused nodes h e es → ((x : Entry) → Contains es x → is_favourable x ≡ true) → e ≡ error.NoMemory
only_memory = memory_alone

-- Nor does a favourable one.
pub only_memory_left : (nodes : List PlanNode) (h : List Event) (e : Error) (es : List Entry) → IsCaused nodes h e es → IsFavourable es → e ≡ error.NoMemory
only_memory_left = memory_left
