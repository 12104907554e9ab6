-- The commands so far and those of what is left are those of all.
use Rattle.std.proofs.Common.{◌≡◌, ◌++◌, drop, map}
use Rattle.std.specs.List.{filter}
use Rattle.just_exec_work.specs.Works.{run_of, line_command, is_filled}
use Rattle.just_exec_work.proofs.line.line_commands.Given as goal

abbrev pub invariant-lines : goal.invariant-lines
invariant-lines l = l.commands.items ++ map (line_command (run_of l.run) l.attributes) (filter is_filled (drop l.line-index l.lines)) ≡ map (line_command (run_of l.run) l.attributes) (filter is_filled l.lines)
