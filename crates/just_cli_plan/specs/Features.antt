-- Unstable features that a project uses.
use Rattle.std.specs.Prelude.{Bool, if◌then◌else◌, List, [], ◌∷◌, Option, Some, None, codes}
use Rattle.std.specs.List.{list_any}
use Rattle.just_path_text.specs.Environ.{or_else}
use Rattle.just_lang_types.specs.declared.project.Justfile.{Justfile}
use Rattle.just_lang_types.specs.declared.recipe.Recipe.{Recipe}
use Rattle.just_lang_types.specs.Modules.{recipes_of, settings_of}
use Rattle.just_lang_types.specs.declared.unstable_feature.UnstableFeature.{UnstableFeature}
use Rattle.just_lang_types.specs.declared.unstable_feature.UnstableFeature.TheVariants as feature
use Rattle.just_exec_work.specs.Attributes.{has_attribute}

abbrev pub is_cached : Recipe → Bool
is_cached r = has_attribute r.attributes (codes "cache")

abbrev pub feature_if : Bool → UnstableFeature → Option UnstableFeature
feature_if is f = if is then Some f else None

-- the first unstable feature that a module uses without its `set unstable`
abbrev pub feature_of : Justfile → Option UnstableFeature
feature_of j =
    if (settings_of j).unstable then None
    else or_else (feature_if (list_any is_cached (recipes_of j)) feature.CachedRecipes) (feature_if (settings_of j).lists feature.ListsSetting)

-- of the first module that does
abbrev pub feature_in : List Justfile → Option UnstableFeature
feature_in [] = None
feature_in (j ∷ js) = or_else (feature_of j) (feature_in js)

-- unless the words allow them
abbrev pub unstable_feature : Bool → List Justfile → Option UnstableFeature
unstable_feature allowed modules = if allowed then None else feature_in modules
