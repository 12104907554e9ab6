-- The rules on two recipes, variables or aliases of one name in one module.
use Rattle.std.specs.Prelude.{ℕ, if◌then◌else◌, List, [], filter, filter_map, Option, Some, None, codes}
use Rattle.just_lang_syntax.specs.declared.ast.AstItem.{AstItem}
use Rattle.just_lang_syntax.specs.declared.ast.AstItem.TheVariants as item
use Rattle.just_lang_spots.specs.declared.spot.Spot.{Spot}
use Rattle.just_lang_spots.specs.Places.{name_spot}
use Rattle.just_lang_spots.specs.Repeated.{repeated}
use Rattle.just_lang_spots.specs.Items.{item_name, is_recipe_here, is_assignment, is_set}
use Rattle.just_lang_spots.specs.Standing.{Wins, unbeaten}

-- the name that an item gives to a recipe or a variable, with its place
abbrev pub given_name : ℕ → AstItem → Option (List ℕ × Spot)
given_name file (item.Recipe r) = Some (r.name.text, name_spot file r.name)
given_name file (item.Assignment export name value comment) = Some (name.text, name_spot file name)
given_name file (item.Alias name target comment) = None
given_name file item.Blank = None
given_name file (item.Comment text) = None
given_name file (item.Import optional path comment) = None
given_name file (item.Module attributes optional name path comment) = None
given_name file (item.Unexport name comment) = None
given_name file (item.Setting name value comment) = None

-- the places of the names that another item before them gives too
abbrev pub repeated_names : List (ℕ × AstItem) → List Spot
repeated_names items = repeated (filter_map (λ x. given_name x.0 x.1) items)

-- of those that nobody beats, the later of two of one name, unless the module allows it
abbrev pub duplicate_recipes : Wins → List (ℕ × AstItem) → List Spot
duplicate_recipes wins items =
    if is_set (codes "allow-duplicate-recipes") items then [] else repeated_names (unbeaten item_name wins (filter is_recipe_here items))

abbrev pub duplicate_variables : Wins → List (ℕ × AstItem) → List Spot
duplicate_variables wins items =
    if is_set (codes "allow-duplicate-variables") items then [] else repeated_names (unbeaten item_name wins (filter is_assignment items))

-- the name of an alias, with its place
abbrev pub alias_name : ℕ → AstItem → Option (List ℕ × Spot)
alias_name file (item.Alias name target comment) = Some (name.text, name_spot file name)
alias_name file (item.Recipe r) = None
alias_name file (item.Assignment export name value comment) = None
alias_name file item.Blank = None
alias_name file (item.Comment text) = None
alias_name file (item.Import optional path comment) = None
alias_name file (item.Module attributes optional name path comment) = None
alias_name file (item.Unexport name comment) = None
alias_name file (item.Setting name value comment) = None

-- the later of two aliases of one name
abbrev pub duplicate_aliases : List (ℕ × AstItem) → List Spot
duplicate_aliases items = repeated (filter_map (λ x. alias_name x.0 x.1) items)
