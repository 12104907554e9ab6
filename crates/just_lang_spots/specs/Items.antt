-- The names of items, their platforms, and the flags that they set.
use Rattle.std.specs.Prelude.{ℕ, ◌&&◌, ◌||◌, not, Bool, true, false, List, [], ◌∷◌, Option, Some, None, codes, bytes_eq}
use Rattle.std.specs.List.{list_any}
use Rattle.just_lang_syntax.specs.declared.ast.AstItem.{AstItem}
use Rattle.just_lang_syntax.specs.declared.ast.AstItem.TheVariants as item
use Rattle.just_lang_syntax.specs.declared.ast.AstRecipe.{AstRecipe}
use Rattle.just_lang_syntax.specs.declared.ast.Attribute.{Attribute}
use Rattle.just_lang_syntax.specs.declared.ast.Expr.{Expr}
use Rattle.just_lang_syntax.specs.declared.ast.Name.{Name}
use Rattle.just_lang_syntax.specs.declared.ast.SettingValue.{SettingValue}
use Rattle.just_lang_syntax.specs.declared.ast.SettingValue.TheVariants as setting
use Rattle.just_lang_syntax.specs.Forms.{is_one_of}

-- the text of the name that an item gives to something; a blank line and the like give none
abbrev pub item_name : AstItem → List ℕ
item_name item.Blank = []
item_name (item.Comment text) = []
item_name (item.Alias name target comment) = name.text
item_name (item.Import optional path comment) = []
item_name (item.Module attributes optional name path comment) = name.text
item_name (item.Assignment export name value comment) = name.text
item_name (item.Unexport name comment) = name.text
item_name (item.Setting name value comment) = name.text
item_name (item.Recipe r) = r.name.text

-- ---- platforms

abbrev pub these_platforms : List (List ℕ)
these_platforms = codes "linux" ∷ codes "unix" ∷ []

abbrev pub other_platforms : List (List ℕ)
other_platforms = codes "macos" ∷ codes "windows" ∷ codes "openbsd" ∷ codes "freebsd" ∷ codes "netbsd" ∷ codes "dragonfly" ∷ codes "android" ∷ []

abbrev pub has_attribute : List (List ℕ) → List Attribute → Bool
has_attribute names attributes = list_any (λ a. is_one_of names a.name.text) attributes

-- whether this platform has what these attributes stand on: they name this one, or none
abbrev pub is_here : List Attribute → Bool
is_here attributes = has_attribute these_platforms attributes || not (has_attribute other_platforms attributes)

-- ---- recipes

abbrev pub is_recipe_here : ℕ × AstItem → Bool
is_recipe_here (n, item.Recipe r) = is_here r.attributes
is_recipe_here (n, item.Blank) = false
is_recipe_here (n, item.Comment text) = false
is_recipe_here (n, item.Alias name target comment) = false
is_recipe_here (n, item.Import optional path comment) = false
is_recipe_here (n, item.Module attributes optional name path comment) = false
is_recipe_here (n, item.Assignment export name value comment) = false
is_recipe_here (n, item.Unexport name comment) = false
is_recipe_here (n, item.Setting name value comment) = false

abbrev pub recipe_in : ℕ × AstItem → Option (ℕ × AstRecipe)
recipe_in (n, item.Recipe r) = Some (n, r)
recipe_in (n, item.Blank) = None
recipe_in (n, item.Comment text) = None
recipe_in (n, item.Alias name target comment) = None
recipe_in (n, item.Import optional path comment) = None
recipe_in (n, item.Module attributes optional name path comment) = None
recipe_in (n, item.Assignment export name value comment) = None
recipe_in (n, item.Unexport name comment) = None
recipe_in (n, item.Setting name value comment) = None

-- ---- variables

-- an assignment without its comment
pub record Variable : Type 0 where
  pub export : Bool
  pub name : Name
  pub value : Expr

abbrev pub variable_in : ℕ × AstItem → Option (ℕ × Variable)
variable_in (n, item.Assignment export name value comment) = Some (n, record { export = export; name = name; value = value })
variable_in (n, item.Recipe r) = None
variable_in (n, item.Blank) = None
variable_in (n, item.Comment text) = None
variable_in (n, item.Alias name target comment) = None
variable_in (n, item.Import optional path comment) = None
variable_in (n, item.Module attributes optional name path comment) = None
variable_in (n, item.Unexport name comment) = None
variable_in (n, item.Setting name value comment) = None

abbrev pub is_assignment : ℕ × AstItem → Bool
is_assignment (n, item.Assignment export name value comment) = true
is_assignment (n, item.Recipe r) = false
is_assignment (n, item.Blank) = false
is_assignment (n, item.Comment text) = false
is_assignment (n, item.Alias name target comment) = false
is_assignment (n, item.Import optional path comment) = false
is_assignment (n, item.Module attributes optional name path comment) = false
is_assignment (n, item.Unexport name comment) = false
is_assignment (n, item.Setting name value comment) = false

-- ---- settings that are flags

-- whether a flag with that value is set
abbrev pub is_set_by : Option SettingValue → Bool
is_set_by None = true
is_set_by (Some (setting.Bool b)) = b
is_set_by (Some (setting.Text x)) = false
is_set_by (Some (setting.List xs)) = false

-- whether an item sets the flag of that name
abbrev pub sets : List ℕ → AstItem → Bool
sets flag (item.Setting name value comment) = bytes_eq name.text flag && is_set_by value
sets flag (item.Recipe r) = false
sets flag item.Blank = false
sets flag (item.Comment text) = false
sets flag (item.Alias name target comment) = false
sets flag (item.Import optional path comment) = false
sets flag (item.Module attributes optional name path comment) = false
sets flag (item.Assignment export name value comment) = false
sets flag (item.Unexport name comment) = false

-- whether one of some items sets it
abbrev pub is_set : List ℕ → List (ℕ × AstItem) → Bool
is_set flag items = list_any (λ x. sets flag x.1) items
