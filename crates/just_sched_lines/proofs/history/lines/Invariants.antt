-- What is left follows what was added.
use Rattle.std.proofs.Common.{◌≡◌, ◌++◌, drop, string_bytes}
use Rattle.just_sched_lines.specs.Lines.{history_text}
use Rattle.just_sched_lines.proofs.history.lines.Given as goal

abbrev pub invariant-events : goal.invariant-events
invariant-events l = string_bytes l.out ++ history_text (drop l.event-index l.history) ≡ history_text l.history
