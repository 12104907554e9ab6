-- The rules on the names of settings.
use Rattle.std.specs.Prelude.{ℕ, not, List, [], Option, Some, None, filter_map}
use Rattle.just_lang_syntax.specs.Forms.{is_one_of, settings}
use Rattle.just_lang_syntax.specs.declared.ast.AstItem.{AstItem}
use Rattle.just_lang_syntax.specs.declared.ast.AstItem.TheVariants as item
use Rattle.just_lang_spots.specs.declared.spot.Spot.{Spot}
use Rattle.just_lang_spots.specs.Spots.{spot_where}
use Rattle.just_lang_spots.specs.Places.{name_spot}
use Rattle.just_lang_spots.specs.Repeated.{repeated}

-- the name of a setting that there isn't
abbrev pub unknown_setting_of : ℕ → AstItem → List Spot
unknown_setting_of file item.Blank = []
unknown_setting_of file (item.Comment text) = []
unknown_setting_of file (item.Alias name target comment) = []
unknown_setting_of file (item.Import optional path comment) = []
unknown_setting_of file (item.Module attributes optional name path comment) = []
unknown_setting_of file (item.Assignment export name value comment) = []
unknown_setting_of file (item.Unexport name comment) = []
unknown_setting_of file (item.Setting name value comment) = spot_where (not (is_one_of settings name.text)) (name_spot file name)
unknown_setting_of file (item.Recipe r) = []

-- the name of a setting, with its place
abbrev pub setting_name : ℕ → AstItem → Option (List ℕ × Spot)
setting_name file item.Blank = None
setting_name file (item.Comment text) = None
setting_name file (item.Alias name target comment) = None
setting_name file (item.Import optional path comment) = None
setting_name file (item.Module attributes optional name path comment) = None
setting_name file (item.Assignment export name value comment) = None
setting_name file (item.Unexport name comment) = None
setting_name file (item.Setting name value comment) = Some (name.text, name_spot file name)
setting_name file (item.Recipe r) = None

-- the settings whose names another one before them has
abbrev pub duplicate_setting_spots : List (ℕ × AstItem) → List Spot
duplicate_setting_spots items = repeated (filter_map (λ x. setting_name x.0 x.1) items)
