-- The groups that a module's public recipes and modules name.
use Rattle.std.specs.Prelude.{ℕ, Bool, false, not, ◌&&◌, if◌then◌else◌, List, [], ◌∷◌, ◌++◌, map, filter, nat_eq, Option, Some, None}
use Rattle.std.specs.List.{flat_map, list_any}
use Rattle.just_lang_syntax.specs.declared.ast.AstItem.{AstItem}
use Rattle.just_lang_syntax.specs.declared.ast.AstItem.TheVariants as item
use Rattle.just_lang_syntax.specs.declared.ast.StringLiteral.{StringLiteral}
use Rattle.just_lang_spots.specs.declared.spot.Spot.{Spot}
use Rattle.just_lang_spots.specs.Places.{name_spot}
use Rattle.just_lang_shapes.specs.Attributes.{groups_of}
use Rattle.just_print_lists.specs.Groups.{has_name}
use Rattle.just_print_tree.specs.Told.{ToldRecipe}

-- the place of the name of a recipe or a module
abbrev pub spot_in : ℕ × AstItem → Option Spot
spot_in (n, item.Recipe r) = Some (name_spot n r.name)
spot_in (n, item.Module attributes optional name path comment) = Some (name_spot n name)
spot_in (n, item.Blank) = None
spot_in (n, item.Comment text) = None
spot_in (n, item.Alias name target comment) = None
spot_in (n, item.Import optional path comment) = None
spot_in (n, item.Assignment export name value comment) = None
spot_in (n, item.Unexport name comment) = None
spot_in (n, item.Setting name value comment) = None

abbrev pub is_spot : Spot → Spot → Bool
is_spot s t = (nat_eq s.file t.file && nat_eq s.line t.line) && nat_eq s.column t.column

-- whether a place is one of some
abbrev pub is_at : List Spot → Option Spot → Bool
is_at spots None = false
is_at spots (Some s) = list_any (is_spot s) spots

-- the places of the public ones among recipes
abbrev pub recipe_spots : List ToldRecipe → List Spot
recipe_spots xs = map (λ (x : ToldRecipe). name_spot x.file x.written.name) (filter (λ (x : ToldRecipe). not x.recipe.private) xs)

module _ (text_of : StringLiteral → Option (List ℕ)) where
  -- the groups that the attributes of a recipe or a module name
  abbrev pub groups_at : AstItem → List (List ℕ)
  groups_at (item.Recipe r) = groups_of text_of r.attributes
  groups_at (item.Module attributes optional name path comment) = groups_of text_of attributes
  groups_at item.Blank = []
  groups_at (item.Comment text) = []
  groups_at (item.Alias name target comment) = []
  groups_at (item.Import optional path comment) = []
  groups_at (item.Assignment export name value comment) = []
  groups_at (item.Unexport name comment) = []
  groups_at (item.Setting name value comment) = []

  -- those of an item at one of these places
  abbrev pub groups_where : List Spot → ℕ × AstItem → List (List ℕ)
  groups_where spots x = if is_at spots (spot_in x) then groups_at x.1 else []

-- each text once, where it stands first; `before` are those that stand in front
abbrev pub each_once : List (List ℕ) → List (List ℕ) → List (List ℕ)
each_once before [] = []
each_once before (x ∷ xs) = if has_name x before then each_once before xs else x ∷ each_once (before ++ x ∷ []) xs

-- the groups that items at these places name, each once, in the order of the items
abbrev pub groups_among : (StringLiteral → Option (List ℕ)) → List Spot → List (ℕ × AstItem) → List (List ℕ)
groups_among text_of spots items = each_once [] (flat_map (groups_where text_of spots) items)
