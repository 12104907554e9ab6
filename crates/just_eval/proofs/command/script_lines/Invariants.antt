-- The lines so far and those of what is left are those of all.
use Rattle.std.proofs.Common.{◌≡◌, drop}
use Rattle.just_eval_closure.specs.Answers.{each}
use Rattle.just_eval_closure.proofs.Each.{behind}
use Rattle.just_eval_closure.specs.Entries.{located_of}
use Rattle.just_eval.specs.Bodies.{script_line}
use Rattle.just_eval.proofs.command.script_lines.Given as goal

abbrev pub invariant-lines : goal.invariant-lines
invariant-lines l =
    behind l.found.items (each (script_line l.scopes (located_of l.from) l.values) (drop l.line-index l.lines)) ≡ each (script_line l.scopes (located_of l.from) l.values) l.lines
