-- Body lines that have both sigils `?` and `-`, where guards are set.
use Rattle.std.specs.Prelude.{ℕ, Bool, false, not, ◌&&◌, if◌then◌else◌, List, [], ◌∷◌, ◌++◌, codes}
use Rattle.std.specs.List.{flat_map}
use Rattle.just_lang_syntax.specs.declared.ast.Line.{Line}
use Rattle.just_lang_syntax.specs.declared.ast.AstItem.{AstItem}
use Rattle.just_lang_syntax.specs.declared.ast.AstItem.TheVariants as item
use Rattle.just_lang_spots.specs.declared.spot.Spot.{Spot}
use Rattle.just_lang_spots.specs.Spots.{spot_where}
use Rattle.just_lang_spots.specs.Items.{is_set}
use Rattle.just_lang_types.specs.Attributes.{is_script}
use Rattle.just_lang_rulebook.specs.Front.{goes_on, front}
use Rattle.just_lang_rulebook.specs.Sigils.{is_guard_and_infallible}

-- the beginning of the first of these lines, where it continues none and its front has both sigils
abbrev pub guard_spot : ℕ → Bool → List Line → List Spot
guard_spot file is_continued [] = []
guard_spot file is_continued (line ∷ lines) =
    spot_where (not is_continued && is_guard_and_infallible (front (line ∷ lines))) (record { file = file; line = line.number; column = 1 })

-- those of all lines; `is_continued` tells whether the line before these goes on with them
abbrev pub guard_spots_of : ℕ → Bool → List Line → List Spot
guard_spots_of file is_continued [] = []
guard_spots_of file is_continued (line ∷ lines) = guard_spot file is_continued (line ∷ lines) ++ guard_spots_of file (goes_on line.fragments) lines

-- scripts have no sigils
abbrev pub guard_spots_in : ℕ → AstItem → List Spot
guard_spots_in file item.Blank = []
guard_spots_in file (item.Comment text) = []
guard_spots_in file (item.Alias name target comment) = []
guard_spots_in file (item.Import optional path comment) = []
guard_spots_in file (item.Module attributes optional name path comment) = []
guard_spots_in file (item.Assignment export name value comment) = []
guard_spots_in file (item.Unexport name comment) = []
guard_spots_in file (item.Setting name value comment) = []
guard_spots_in file (item.Recipe r) = if is_script r then [] else guard_spots_of file false r.body

abbrev pub guard_spots_among : List (ℕ × AstItem) → List Spot
guard_spots_among items = if is_set (codes "guards") items then flat_map (λ x. guard_spots_in x.0 x.1) items else []
