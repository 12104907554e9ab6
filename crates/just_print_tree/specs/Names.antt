-- The recipes and the other names that listings show.
use Rattle.std.specs.Prelude.{ℕ, Bool, not, List, [], map, filter, Option}
use Rattle.std.specs.Option.{option_map_or}
use Rattle.just_lang_syntax.specs.declared.ast.StringLiteral.{StringLiteral}
use Rattle.just_lang_types.specs.declared.project.Justfile.{Justfile, out-Justfile}
use Rattle.just_lang_types.specs.declared.recipe.Modulepath.{Modulepath}
use Rattle.just_lang_types.specs.declared.scope.Alias.{Alias}
use Rattle.just_lang_types.specs.Keys.{same_path}
use Rattle.just_lang_shapes.specs.Attributes.{groups_of}
use Rattle.just_lang_justfile.specs.Trees.{is_within}
use Rattle.just_print.specs.Printed.{printed_parameters}
use Rattle.just_print_lists.specs.declared.listed.ListedRecipe.{ListedRecipe}
use Rattle.just_print_lists.specs.declared.listed.ListedAlias.{ListedAlias}
use Rattle.just_print_tree.specs.Told.{ToldRecipe, enabled, found_told}

-- the parameters of a recipe as its line has them
abbrev pub parameters_of : ToldRecipe → List ℕ
parameters_of x = printed_parameters x.written.parameters

-- ---- recipes

-- the names that lead to a path
abbrev pub names_to : Modulepath → List Alias → List (List ℕ)
names_to path aliases = map (λ (a : Alias). a.name) (filter (λ (a : Alias). same_path a.target path) aliases)

module _ (text_of : StringLiteral → Option (List ℕ)) (j : Justfile) where
  unfoldable pub listed_recipe : ToldRecipe → ListedRecipe
  listed_recipe x = record {
    name = x.recipe.name;
    parameters = parameters_of x;
    doc = x.recipe.doc;
    groups = groups_of text_of x.written.attributes;
    aliases = names_to x.recipe.path (out-Justfile j).recipe_aliases;
    private = x.recipe.private;
  }

  -- those that can be run
  abbrev pub listed_recipes : List ToldRecipe → List ListedRecipe
  listed_recipes xs = map listed_recipe (enabled j xs)

-- ---- other names

-- whether an alias is one of a recipe of another module than that of the path
abbrev pub is_of_other : Modulepath → Alias → Bool
is_of_other path a = not (is_within path.components a.target.components)

module _ (all : List (List ToldRecipe)) where
  abbrev pub listed_alias : Alias → ListedAlias
  listed_alias a = record { name = a.name; parameters = option_map_or parameters_of (found_told all a.target) []; target = a.target }

  -- the aliases of a module of that path that are of other modules' recipes
  abbrev pub listed_aliases : Modulepath → List Alias → List ListedAlias
  listed_aliases path aliases = map listed_alias (filter (is_of_other path) aliases)
