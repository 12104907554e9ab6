-- The values so far and those of what is left are those of all.
use Rattle.std.proofs.Common.{◌≡◌, drop}
use Rattle.just_eval_closure.specs.Answers.{each}
use Rattle.just_eval_closure.specs.Dependencies.{argument}
use Rattle.just_eval_closure.specs.Entries.{located_of}
use Rattle.just_eval_closure.proofs.Each.{behind}
use Rattle.just_eval_closure.proofs.argument.arguments.Given as goal

abbrev pub invariant-exprs : goal.invariant-exprs
invariant-exprs l =
    behind l.found.items (each (argument l.scopes (located_of l.from) l.values) (drop l.expr-index l.exprs)) ≡ each (argument l.scopes (located_of l.from) l.values) l.exprs
