-- It is among those that are left.
use Rattle.std.proofs.Common.{◌≡◌, drop}
use Rattle.just_cli_texts.specs.Choices.{recipe_named}
use Rattle.just_cli_texts.proofs.choices.recipe_named.Given as goal

abbrev pub invariant-recipes : goal.invariant-recipes
invariant-recipes l = recipe_named (drop l.recipe-index l.recipes) l.name ≡ recipe_named l.recipes l.name
