-- What names and paths of names come to.
use Rattle.std.specs.Prelude.{ℕ, suc, Bool, false, if◌then◌else◌, List, [], ◌∷◌, ◌++◌, slice_get, Option, Some, None, is_some, bytes_eq}
use Rattle.std.specs.List.{list_any}
use Rattle.std.specs.Option.{option_and_then, option_map_or}
use Rattle.std.specs.Cmp.Lexicographic.{pointwise}
use Rattle.just_lang_syntax.specs.declared.ast.AstItem.{AstItem}
use Rattle.just_lang_syntax.specs.declared.ast.AstRecipe.{AstRecipe}
use Rattle.just_lang_syntax.specs.declared.ast.Name.{Name}
use Rattle.just_lang_layout.specs.declared.layout.File.{File}
use Rattle.just_lang_layout.specs.declared.layout.Layout.{Layout}
use Rattle.just_lang_layout.specs.declared.layout.Module.{Module}
use Rattle.just_lang_spots.specs.Items.{item_name, recipe_in}
use Rattle.just_lang_spots.specs.Standing.{Wins, has_name, named}
use Rattle.just_lang_names.specs.Standing.{standing_recipe_items, standing_variable_items, absent_items}

-- ---- modules

-- two paths have the same components
abbrev pub same_path : List (List ℕ) → List (List ℕ) → Bool
same_path = pointwise bytes_eq

abbrev pub or_here : ℕ → Bool → Option ℕ → Option ℕ
or_here n is_it (Some k) = Some k
or_here n is_it None = if is_it then Some n else None

-- the number of the module of that path, where the first of these has that number
abbrev pub module_from : ℕ → List Module → List (List ℕ) → Option ℕ
module_from n [] path = None
module_from n (m ∷ ms) path = or_here n (same_path m.path.components path) (module_from (suc n) ms path)

-- the number of the module of that path
abbrev pub module_at : List Module → List (List ℕ) → Option ℕ
module_at modules path = module_from 0 modules path

-- the number of the module of that name in this one
abbrev pub child : Layout → ℕ → List ℕ → Option ℕ
child layout m name = option_and_then (λ (x : Module). module_at layout.modules (x.path.components ++ name ∷ [])) (slice_get layout.modules m)

-- whether this module has one of that name that may be missing and is
abbrev pub is_absent : Layout → ℕ → List ℕ → Bool
is_absent layout m name = option_map_or (λ x. list_any (has_name item_name name) (absent_items layout.files x)) (slice_get layout.modules m) false

-- ---- recipes and variables

-- the item of the recipe of that name that stands in a module
abbrev pub recipe_item : Wins → Layout → ℕ → List ℕ → Option (ℕ × AstItem)
recipe_item wins layout m name = option_and_then (λ x. named item_name name (standing_recipe_items wins layout.files x)) (slice_get layout.modules m)

-- that recipe, with the number of its file
abbrev pub recipe_named : Wins → Layout → ℕ → List ℕ → Option (ℕ × AstRecipe)
recipe_named wins layout m name = option_and_then recipe_in (recipe_item wins layout m name)

-- whether a variable of that name stands in a module
abbrev pub is_variable : Wins → List File → Module → List ℕ → Bool
is_variable wins files m name = is_some (named item_name name (standing_variable_items wins files m))

-- ---- paths

-- what a path of names comes to: a recipe of a module, with the number of its file; a module; what is in a module that isn't there, or that module; or
-- nothing, with the first name that isn't known
pub data Target : Type 0 where
  Found_recipe : (number file : ℕ) → AstRecipe → Target
  Found_module : (number : ℕ) → Target
  Found_absent : Target
  Found_nothing : Name → Target

abbrev pub recipe_or : Target → ℕ → Option (ℕ × AstRecipe) → Target
recipe_or otherwise m None = otherwise
recipe_or otherwise m (Some x) = Found_recipe m x.0 x.1

abbrev pub module_or : Target → Option ℕ → Target
module_or otherwise None = otherwise
module_or otherwise (Some k) = Found_module k

abbrev pub absent_or : Target → Bool → Target
absent_or otherwise is_it = if is_it then Found_absent else otherwise

-- the last name of a dependency's path is a recipe's; that of an alias's may be a module's
abbrev pub dependency_end : Wins → Layout → ℕ → Name → Target
dependency_end wins layout m n = recipe_or (Found_nothing n) m (recipe_named wins layout m n.text)

abbrev pub alias_end : Wins → Layout → ℕ → Name → Target
alias_end wins layout m n =
    recipe_or (module_or (absent_or (Found_nothing n) (is_absent layout m n.text)) (child layout m n.text)) m (recipe_named wins layout m n.text)

module _ (last : ℕ → Name → Target) (layout : Layout) where
  -- what follows a name that is a module's, or isn't
  abbrev pub behind : (ℕ → Target) → Name → ℕ → Option ℕ → Target
  behind further n m (Some k) = further k
  behind further n m None = absent_or (Found_nothing n) (is_absent layout m n.text)

  -- what names come to in a module: all but the last name modules within one another
  abbrev pub target_with : List Name → ℕ → Target
  target_with [] m = Found_module m
  target_with (n ∷ []) m = last m n
  target_with (n ∷ n' ∷ names) m = behind (target_with (n' ∷ names)) n m (child layout m n.text)

-- what a dependency's path, and an alias's, comes to in a module
abbrev pub dependency_target : Wins → Layout → ℕ → List Name → Target
dependency_target wins layout m names = target_with (dependency_end wins layout) layout names m

abbrev pub alias_target : Wins → Layout → ℕ → List Name → Target
alias_target wins layout m names = target_with (alias_end wins layout) layout names m
