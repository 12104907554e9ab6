-- What a dry run tells: what a run would whose commands all end with the code 0, and which looks at no cache.
use Rattle.std.specs.Prelude.{ℕ, ◌≡◌, ◌<◌, List, ◌∷◌, ◌++◌, length, replicate, Result, Ok, Err, pos}
use Rattle.std.specs.List.{flat_map}
use Rattle.just_host_record.specs.declared.entry.Entry.{Entry}
use Rattle.just_host_record.specs.declared.entry.Status.{Status}
use Rattle.just_host_record.specs.declared.entry.Status.TheVariants as status
use Rattle.just_host_record.specs.World.{Moment}
use Rattle.just_exec_work.specs.declared.work.Command.{Command}
use Rattle.just_exec_work.specs.declared.work.Step.TheVariants as step
use Rattle.just_exec_work.specs.declared.work.Work.{Work}
use Rattle.just_exec_work.specs.Steps.{commands_of, after}
use Rattle.just_sched_history.specs.declared.plan_node.PlanNode.{PlanNode}
use Rattle.just_sched_history.specs.Match.{printed_entries}
use Rattle.just_exec.specs.declared.error.Error.{Error}
use Rattle.just_cli_children.specs.Faults.{entries_of, IsPrintError}

-- the entries of the echoes of commands, one behind the other; and of a node: its banner, and the echoes of all commands of its body
abbrev pub echoed : List Command → List Entry
echoed commands = flat_map (λ (c : Command). printed_entries c.echo) commands

abbrev pub told_of : PlanNode → List Entry
told_of x = printed_entries x.banner ++ echoed (commands_of x.work)

-- those of nodes, in their order
abbrev pub told_of_all : List PlanNode → List Entry
told_of_all xs = flat_map told_of xs

-- some front of these entries was gained, and behind it that of the print that was refused
pub record IsCutShort (all : List Entry) (e : Error) (old new : List Entry) : Type 0 where
  pub front : List Entry
  pub next : Entry
  pub behind : List Entry
  pub cut : all ≡ front ++ next ∷ behind
  pub refused : IsPrintError e
  pub grew : new ≡ old ++ (front ++ entries_of e)

-- The texts of these entries are printed, each once and in their order; or one of them isn't, and none behind it. The told world stays.
pub data Tells (all : List Entry) (before after : Moment) (r : Result (Unit {0}) Error) : Type 0 where
  all_told : after.entries ≡ before.entries ++ all → after.world ≡ before.world → r ≡ Ok tt → Tells all before after r
  cut_short : (e : Error) → IsCutShort all e before.entries after.entries → after.world ≡ before.world → r ≡ Err e → Tells all before after r

-- ---- a law of bodies

-- so many commands that ended with the code 0
abbrev pub zeros : ℕ → List Status
zeros n = replicate n (status.Code (pos 0))

-- Behind commands that all ended with the code 0 the next one is started, and behind the last one the body has ended well: a body all of whose commands end so
-- starts each of them once, in their order, and no other.
abbrev pub StartsAll : Type 0
StartsAll = (w : Work) → ((n : ℕ) → n < length (commands_of w) → after w (zeros n) ≡ step.Start n) × (after w (zeros (length (commands_of w))) ≡ step.Well)
