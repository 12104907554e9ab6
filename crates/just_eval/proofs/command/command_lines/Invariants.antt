-- The lines so far and those of what is left are those of all.
use Rattle.std.proofs.Common.{◌≡◌, drop, map}
use Rattle.std.specs.List.{filter}
use Rattle.just_eval_closure.specs.Answers.{each}
use Rattle.just_eval_closure.proofs.Each.{behind}
use Rattle.just_eval_closure.specs.Entries.{located_of}
use Rattle.just_eval.specs.Bodies.{command_line, is_run}
use Rattle.just_eval.specs.Parts.{line_of}
use Rattle.just_eval.proofs.command.command_lines.Given as goal

abbrev pub invariant-lines : goal.invariant-lines
invariant-lines l =
    behind l.found.items (each (command_line l.scopes (located_of l.from) l.values) (filter (is_run (located_of l.from)) (map line_of (drop l.line-index l.lines)))) ≡ each (command_line l.scopes (located_of l.from) l.values) (filter (is_run (located_of l.from)) (map line_of l.lines))
