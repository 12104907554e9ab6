-- None of the recipes so far has that path.
use Rattle.std.proofs.Common.{◌≡◌, drop}
use Rattle.std.specs.Prelude.{find}
use Rattle.just_lang_types.specs.Keys.{same_path}
use Rattle.just_print_tree.specs.Kept.{tolds}
use Rattle.just_print_tree.specs.Told.{ToldRecipe}
use Rattle.just_print_tree.proofs.told.found_in.Given as goal

abbrev pub invariant-recipes : goal.invariant-recipes
invariant-recipes l =
    find (λ (x : ToldRecipe). same_path x.recipe.path l.path) (tolds (drop l.one-index l.recipes)) ≡ find (λ (x : ToldRecipe). same_path x.recipe.path l.path) (tolds l.recipes)
