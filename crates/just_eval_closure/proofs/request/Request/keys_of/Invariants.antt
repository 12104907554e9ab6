-- The keys so far and those of what is left are those of all.
use Rattle.std.proofs.Common.{◌≡◌, drop, map}
use Rattle.just_eval_closure.specs.Answers.{each}
use Rattle.just_eval_closure.specs.Dependencies.{key_of}
use Rattle.just_eval_closure.specs.Entries.{located_of}
use Rattle.just_eval_closure.proofs.Each.{behind}
use Rattle.just_eval_closure.proofs.request.Request.keys_of.Given as goal

abbrev pub invariant-dependencies : goal.invariant-dependencies
invariant-dependencies l =
    behind l.keys.items (each (key_of (map (λ m. m.now) l.self.modules.items) l.self.scopes.now (located_of l.from) l.values) (drop l.dependency-index l.dependencies)) ≡ each (key_of (map (λ m. m.now) l.self.modules.items) l.self.scopes.now (located_of l.from) l.values) l.dependencies
