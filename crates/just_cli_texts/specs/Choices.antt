-- The recipes that can be chosen, and what a chooser is fed.
use Rattle.std.specs.Prelude.{◌≡◌, ℕ, not, ◌||◌, ◌&&◌, Bool, false, List, [], ◌∷◌, ◌++◌, map, filter, find, Option, Some, None, Result, Ok, Err, bytes_eq, codes}
use Rattle.std.specs.List.{flat_map, list_any}
use Rattle.just_lang_types.specs.declared.project.Justfile.{Justfile}
use Rattle.just_lang_types.specs.declared.recipe.Modulepath.{Modulepath}
use Rattle.just_lang_types.specs.declared.recipe.Recipe.{Recipe}
use Rattle.just_lang_types.specs.Keys.{same_path}
use Rattle.just_lang_types.specs.Modules.{path_of as path_of_module, recipes_of}
use Rattle.just_lang_layout.specs.Paths.{Pairs}
use Rattle.just_config.specs.declared.config.Config.{Config}
use Rattle.just_print.specs.Printed.{newline}
use Rattle.just_print_lists.specs.declared.listed.ListedModule.{ListedModule}
use Rattle.just_print_lists.specs.declared.listed.ListedRecipe.{ListedRecipe}
use Rattle.just_print_lists.specs.Groups.{is_nil, has_name}
use Rattle.just_print_lists.specs.Listed.{path_of}
use Rattle.just_print_lists.specs.Summaries.{public_recipes, AreInTurn}
use Rattle.just_print_commands.specs.Projects.{Parts}
use Rattle.just_exec.specs.Parts.{is_needed}
use Rattle.just_exec.specs.declared.error.Error.{Error}
use Rattle.just_exec.specs.declared.error.Error.TheVariants as error
use Rattle.just_cli_texts.specs.Laid.{LaidSources, ArePartsOf}

-- ---- which recipes can be chosen

-- the justfile of the module of a path, and the recipe of a name in it
abbrev pub justfile_at : List Justfile → Modulepath → Option Justfile
justfile_at modules path = find (λ (j : Justfile). same_path (path_of_module j) path) modules

abbrev pub recipe_named : List Recipe → List ℕ → Option Recipe
recipe_named recipes name = find (λ (r : Recipe). bytes_eq r.name name) recipes

abbrev pub recipe_in : Option Justfile → List ℕ → Option Recipe
recipe_in None name = None
recipe_in (Some j) name = recipe_named (recipes_of j) name

-- it needs no argument: each of its parameters is an option, has a default or takes none too
abbrev pub needs_none : Option Recipe → Bool
needs_none None = false
needs_none (Some r) = not (list_any is_needed r.parameters)

-- it is in one of some groups, where some are given
abbrev pub is_of_groups : List (List ℕ) → List (List ℕ) → Bool
is_of_groups groups own = is_nil groups || list_any (λ g. has_name g own) groups

abbrev pub is_choosable : List (List ℕ) → Option Justfile → ListedRecipe → Bool
is_choosable groups j r = is_of_groups groups r.groups && needs_none (recipe_in j r.name)

-- ---- the lines

-- the path of a recipe of that name in a module, with a blank between two names
abbrev pub spaced_path : ListedModule → List ℕ → List ℕ
spaced_path m name = flat_map (λ n. n ++ codes " ") (path_of m).components ++ name

-- those of a module's own recipes that can be chosen
abbrev pub choices_of : Config → List Justfile → ListedModule → List (List ℕ)
choices_of c modules m = map (λ (r : ListedRecipe). spaced_path m r.name) (filter (is_choosable c.group (justfile_at modules (path_of m))) (public_recipes c.unsorted m))

-- those of a project, in the order of its public recipes: a module's own before those of the modules within it
abbrev pub AreChoices : Config → Parts → List (List ℕ) → Type 0
AreChoices c p lines = (all : List ListedModule) × AreInTurn c.unsorted (p.tree ∷ []) all × (lines ≡ flat_map (choices_of c p.modules) all)

-- ---- what a chooser is fed

-- each line with its end
abbrev pub fed : List (List ℕ) → List ℕ
fed lines = flat_map (λ l. l ++ newline) lines

abbrev pub fed_unless_none : List (List ℕ) → Result (List ℕ) Error
fed_unless_none [] = Err error.NoChoosableRecipes
fed_unless_none (l ∷ ls) = Ok (fed (l ∷ ls))

-- what a chooser is fed of a justfile with its layout; it is refused where nothing can be chosen
abbrev pub Feeds : Pairs → Config → LaidSources → Result (List ℕ) Error → Type 0
Feeds environ c l r = (p : Parts) × ArePartsOf environ l p × ((lines : List (List ℕ)) × AreChoices c p lines × (r ≡ fed_unless_none lines))
