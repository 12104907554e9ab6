-- What listings show of a module.
use Rattle.std.specs.Prelude.{ℕ, Bool, List, Option}
use Rattle.just_lang_types.specs.declared.recipe.Modulepath.{Modulepath}
use Rattle.just_print_lists.specs.declared.listed.ListedRecipe.{ListedRecipe}
use Rattle.just_print_lists.specs.declared.listed.ListedAlias.{ListedAlias}
use Rattle.just_print_lists.specs.declared.listed.ListedModule.{ListedModule, out-ListedModule}

abbrev pub name_of : ListedModule → List ℕ
name_of m = (out-ListedModule m).name

abbrev pub path_of : ListedModule → Modulepath
path_of m = (out-ListedModule m).path

abbrev pub doc_of : ListedModule → Option (List ℕ)
doc_of m = (out-ListedModule m).doc

abbrev pub groups_of : ListedModule → List (List ℕ)
groups_of m = (out-ListedModule m).groups

abbrev pub is_private : ListedModule → Bool
is_private m = (out-ListedModule m).private

abbrev pub recipes_of : ListedModule → List ListedRecipe
recipes_of m = (out-ListedModule m).recipes

abbrev pub aliases_of : ListedModule → List ListedAlias
aliases_of m = (out-ListedModule m).aliases

abbrev pub modules_of : ListedModule → List ListedModule
modules_of m = (out-ListedModule m).modules

abbrev pub named_groups_of : ListedModule → List (List ℕ)
named_groups_of m = (out-ListedModule m).named_groups
