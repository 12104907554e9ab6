-- The recipe that words lead to.
use Rattle.std.specs.Prelude.{◌==◌, Bool, if◌then◌else◌, List, [], ◌∷◌, Option, Some, None, Ok, Err, codes, bytes_eq, find}
use Rattle.std.specs.List.{list_any}
use Rattle.just_path_text.specs.Environ.{or_else}
use Rattle.just_lang_types.specs.declared.recipe.Recipe.{Recipe}
use Rattle.just_lang_types.specs.declared.scope.Disabled.{Disabled}
use Rattle.just_lang_types.specs.declared.project.Justfile.{Justfile, out-Justfile}
use Rattle.just_lang_types.specs.declared.project.LangError.TheVariants as error
use Rattle.just_eval_closure.specs.Answers.{Answer, and_then}
use Rattle.just_lang_types.specs.Modules.{recipes_of, Located}
use Rattle.just_eval_words.specs.Parameters.{least_words}
use Rattle.just_eval_words.specs.Paths.{Word, parts}
use Rattle.just_eval_words.specs.Names.{Target, disabled_at, target_of}

-- ---- default recipes

abbrev pub is_default : Recipe → Bool
is_default r = list_any (λ a. bytes_eq a.name.text (codes "default")) r.attributes

abbrev pub first_of : List Recipe → Option Recipe
first_of [] = None
first_of (r ∷ rs) = Some r

-- the recipe with that attribute, else the first one
abbrev pub default_in : Justfile → Option Recipe
default_in j = or_else (find is_default (recipes_of j)) (first_of (recipes_of j))

-- it can be run, and needs no positional words
abbrev pub default_enabled : Justfile → Recipe → Option Disabled → Answer Located
default_enabled j r (Some d) = Err (error.RecipeDisabled r.name d.modules)
default_enabled j r None =
    if least_words r.parameters == 0 then Ok (record { parent = j; recipe = r }) else Err (error.DefaultRecipeRequiresArguments r.name (least_words r.parameters))

abbrev pub default_by : Justfile → Option Recipe → Answer Located
default_by j None = Err error.NoRecipes
default_by j (Some r) = default_enabled j r (disabled_at (out-Justfile j).disabled_recipes r.name)

-- the default recipe of a module
abbrev pub default_of : Justfile → Answer Located
default_of j = default_by j (default_in j)

-- ---- paths of words

-- behind a module's name the next word is looked up in it; a recipe ends the path
abbrev pub behind_target : {A : Type 0} → Target → (Justfile → Answer A) → (Located → Answer A) → Answer A
behind_target (Target.to_module m) inside found = inside m
behind_target (Target.to_recipe l) inside found = found l

-- the recipe that words lead to from a module, with the words behind its path
abbrev pub chosen : List Justfile → List Word → Justfile → Answer (Located × List Word)
chosen modules [] j = and_then (default_of j) (λ l. Ok (l, []))
chosen modules (w ∷ ws) j = and_then (target_of modules (parts w) w j) (λ t. behind_target t (λ m. chosen modules ws m) (λ l. Ok (l, ws)))
