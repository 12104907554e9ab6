-- The aliases of a module: of recipes, of modules, and those that can't be run.
use Rattle.std.specs.Prelude.{ℕ, List, filter_map, Option, Some, None}
use Rattle.std.specs.Option.{option_and_then}
use Rattle.just_lang_syntax.specs.declared.ast.AstItem.{AstItem}
use Rattle.just_lang_syntax.specs.declared.ast.AstItem.TheVariants as item
use Rattle.just_lang_syntax.specs.declared.ast.Name.{Name}
use Rattle.just_lang_types.specs.declared.scope.Alias.{Alias}
use Rattle.just_lang_types.specs.declared.scope.Disabled.{Disabled}
use Rattle.just_lang_justfile.specs.declared.aliases.AliasKind.{AliasKind}
use Rattle.just_lang_justfile.specs.declared.aliases.AliasKind.TheVariants as alias_kind
use Rattle.just_lang_justfile.specs.declared.linker.AliasTarget.{AliasTarget}
use Rattle.just_lang_justfile.specs.declared.linker.AliasTarget.TheVariants as target
use Rattle.just_lang_justfile.specs.Links.{Links}
use Rattle.just_lang_justfile.specs.Recipes.{if_empty, disabled_for}

-- an alias of a recipe, and one of a module
abbrev pub recipe_alias : List ℕ → AliasTarget → Option Alias
recipe_alias name (target.Recipe path) = Some (record { name = name; target = path })
recipe_alias name (target.Module path) = None
recipe_alias name target.Nothing = None

abbrev pub module_alias : List ℕ → AliasTarget → Option Alias
module_alias name (target.Module path) = Some (record { name = name; target = path })
module_alias name (target.Recipe path) = None
module_alias name target.Nothing = None

-- an alias whose target is of that kind
abbrev pub alias_for : AliasKind → List ℕ → AliasTarget → Option Alias
alias_for alias_kind.Recipe = recipe_alias
alias_for alias_kind.Module = module_alias

module _ (links : Links) (number : ℕ) where
  -- what an alias's path in the module of that number comes to; none where it can't be run
  abbrev pub target_of : List Name → Option AliasTarget
  target_of path = if_empty (links.modules_of_alias number path) (Some (links.alias_target number path)) None

  -- an alias there that can be run, by what its path comes to
  abbrev pub alias_by : (List ℕ → AliasTarget → Option Alias) → ℕ × AstItem → Option Alias
  alias_by alias (n, item.Alias name path comment) = option_and_then (alias name.text) (target_of path)
  alias_by alias (n, item.Recipe r) = None
  alias_by alias (n, item.Blank) = None
  alias_by alias (n, item.Comment text) = None
  alias_by alias (n, item.Import optional path comment) = None
  alias_by alias (n, item.Module attributes optional name path comment) = None
  alias_by alias (n, item.Assignment export name value comment) = None
  alias_by alias (n, item.Unexport name comment) = None
  alias_by alias (n, item.Setting name value comment) = None

  abbrev pub recipe_aliases_of : List (ℕ × AstItem) → List Alias
  recipe_aliases_of items = filter_map (alias_by recipe_alias) items

  abbrev pub module_aliases_of : List (ℕ × AstItem) → List Alias
  module_aliases_of items = filter_map (alias_by module_alias) items

  -- those of that kind
  abbrev pub aliases_to : AliasKind → List (ℕ × AstItem) → List Alias
  aliases_to kind items = filter_map (alias_by (alias_for kind)) items

  -- one that can't
  abbrev pub disabled_alias : ℕ × AstItem → Option Disabled
  disabled_alias (n, item.Alias name path comment) = disabled_for name.text (links.modules_of_alias number path)
  disabled_alias (n, item.Recipe r) = None
  disabled_alias (n, item.Blank) = None
  disabled_alias (n, item.Comment text) = None
  disabled_alias (n, item.Import optional path comment) = None
  disabled_alias (n, item.Module attributes optional name path comment) = None
  disabled_alias (n, item.Assignment export name value comment) = None
  disabled_alias (n, item.Unexport name comment) = None
  disabled_alias (n, item.Setting name value comment) = None

  abbrev pub disabled_aliases_of : List (ℕ × AstItem) → List Disabled
  disabled_aliases_of items = filter_map disabled_alias items
