-- The values so far and those of what is left are those of all.
use Rattle.std.proofs.Common.{◌≡◌, drop}
use Rattle.just_eval_closure.specs.Dependencies.{values_behind, values_given}
use Rattle.just_eval_closure.specs.Entries.{located_of}
use Rattle.just_eval_closure.proofs.given.values_given.Given as goal

abbrev pub invariant-parameters : goal.invariant-parameters
invariant-parameters l =
    values_behind l.scopes (located_of l.to) l.done.items (drop l.at l.to.recipe.now.parameters) (drop l.at l.given) ≡ values_given l.scopes (located_of l.to) l.given
