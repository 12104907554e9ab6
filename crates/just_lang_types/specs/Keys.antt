-- Keys and the recipes that they name.
use Rattle.std.specs.Prelude.{◌&&◌, Bool, List, [], map, Option, Some, None, bytes_eq, find}
use Rattle.std.specs.Cmp.Lexicographic.{pointwise}
use Rattle.just_lang_types.specs.declared.recipe.Modulepath.{Modulepath}
use Rattle.just_lang_types.specs.declared.recipe.Dependency.{Dependency}
use Rattle.just_lang_types.specs.declared.recipe.Recipe.{Recipe}
use Rattle.just_lang_types.specs.declared.key.Key.{Key}
use Rattle.just_lang_types.specs.declared.key.Value.{Value}

-- whether two paths lead to one recipe
abbrev pub same_path : Modulepath → Modulepath → Bool
same_path a b = pointwise bytes_eq a.components b.components

-- whether two values have the same elements
abbrev pub same_value : Value → Value → Bool
same_value a b = pointwise bytes_eq a.elements b.elements

-- whether two keys are equal: one recipe, with the same values
abbrev pub same_key : Key → Key → Bool
same_key a b = same_path a.recipe b.recipe && pointwise same_value a.arguments b.arguments
