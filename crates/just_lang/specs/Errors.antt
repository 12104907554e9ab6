-- The errors of broken rules.
use Rattle.std.specs.Prelude.{◌≡◌, ◌⊎◌, Some, None}
use Rattle.just_lang_types.specs.declared.project.LangError.{LangError}
use Rattle.just_lang_types.specs.declared.project.LangError.TheVariants as error
use Rattle.just_lang_layout.specs.declared.error.LayoutError.{LayoutError}
use Rattle.just_lang_layout.specs.declared.error.LayoutError.TheVariants as layout_error
use Rattle.just_lang_layout.specs.declared.layout.Layout.{Layout}
use Rattle.just_lang_layout.specs.Laid.{path_of}
use Rattle.just_lang_layout.specs.Paths.{Pairs}
use Rattle.just_lang_spots.specs.declared.spot.Spot.{Spot}
use Rattle.just_lang_spots.specs.Spots.{first_spot}
use Rattle.just_lang_spots.specs.Standing.{Wins}
use Rattle.just_lang_rulebook.specs.declared.broken.Broken.{Broken}
use Rattle.just_lang_rulebook.specs.Rules.{not_constant_spots}
use Rattle.just_lang.specs.Rules.{IsFirstRule}

-- that of a rule on files
abbrev pub error_of_files : LayoutError → LangError
error_of_files layout_error.MissingImportFile = error.MissingImportFile
error_of_files (layout_error.CircularImport current import) = error.CircularImport current import
error_of_files (layout_error.MissingModuleFile m) = error.MissingModuleFile m
error_of_files (layout_error.AmbiguousModuleFile m found) = error.AmbiguousModuleFile m found
error_of_files layout_error.Homedir = error.Homedir
error_of_files layout_error.NoMemory = error.NoMemory

-- that of a rule on texts
abbrev pub error_of_rule : Layout → Broken → LangError
error_of_rule layout b = error.Compile (record { kind = b.kind; path = path_of layout.files b.spot.file; line = b.spot.line; column = b.spot.column })

-- that of a text that isn't constant
abbrev pub error_of_constant : Layout → Spot → LangError
error_of_constant layout s = error.Const (path_of layout.files s.file) s.line s.column

-- a layout breaks no rule on texts, and the texts of its settings and attributes are constant
pub record BreaksNone (environ : Pairs) (wins : Wins) (layout : Layout) : Type 0 where
  pub rules : IsFirstRule environ wins layout None
  pub constants : first_spot (not_constant_spots layout) ≡ None

-- the error of the first rule that it breaks
unfoldable pub IsErrorIn : Pairs → Wins → Layout → LangError → Type 0
IsErrorIn environ wins layout e =
    ((b : Broken) × IsFirstRule environ wins layout (Some b) × (e ≡ error_of_rule layout b))
    ⊎ (IsFirstRule environ wins layout None × (s : Spot) × (first_spot (not_constant_spots layout) ≡ Some s) × (e ≡ error_of_constant layout s))
