-- Recipes that are the default one.
use Rattle.std.specs.Prelude.{ℕ, List, [], map, filter, drop, codes}
use Rattle.std.specs.List.{flat_map}
use Rattle.just_lang_syntax.specs.declared.ast.Attribute.{Attribute}
use Rattle.just_lang_syntax.specs.declared.ast.AstItem.{AstItem}
use Rattle.just_lang_syntax.specs.declared.ast.AstItem.TheVariants as item
use Rattle.just_lang_spots.specs.declared.spot.Spot.{Spot}
use Rattle.just_lang_spots.specs.Places.{name_spot}
use Rattle.just_lang_types.specs.Attributes.{is_called}

-- the places of the attribute `default` among some
abbrev pub default_attributes : ℕ → List Attribute → List Spot
default_attributes file attributes = map (λ a. name_spot file a.name) (filter (is_called (codes "default")) attributes)

abbrev pub default_spots : ℕ → AstItem → List Spot
default_spots file item.Blank = []
default_spots file (item.Comment text) = []
default_spots file (item.Alias name target comment) = []
default_spots file (item.Import optional path comment) = []
default_spots file (item.Module attributes optional name path comment) = []
default_spots file (item.Assignment export name value comment) = []
default_spots file (item.Unexport name comment) = []
default_spots file (item.Setting name value comment) = []
default_spots file (item.Recipe r) = default_attributes file r.attributes

-- all of them but the first
abbrev pub duplicate_default_spots : List (ℕ × AstItem) → List Spot
duplicate_default_spots items = drop 1 (flat_map (λ x. default_spots x.0 x.1) items)
