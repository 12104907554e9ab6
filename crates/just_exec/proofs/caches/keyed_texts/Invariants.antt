-- The texts so far and those of what is left are those of all.
use Rattle.std.proofs.Common.{◌≡◌, drop}
use Rattle.just_eval_closure.specs.Answers.{each}
use Rattle.just_eval_closure.proofs.Each.{behind}
use Rattle.just_eval_closure.specs.Entries.{located_of}
use Rattle.just_exec.specs.Caches.{keyed_text}
use Rattle.just_exec.proofs.caches.keyed_texts.Given as goal

abbrev pub invariant-arguments : goal.invariant-arguments
invariant-arguments l =
    behind l.texts.items (each (keyed_text l.scopes (located_of l.from) l.values) (drop l.argument-index l.arguments)) ≡ each (keyed_text l.scopes (located_of l.from) l.values) l.arguments
