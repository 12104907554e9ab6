-- The files that a source names and that are there.
use Rattle.std.specs.Prelude.{◌≡◌, ℕ, ◌||◌, Bool, if◌then◌else◌, List, [], ◌∷◌, ◌++◌, map, filter, chars, Option, Some, None, Result, Ok, Err, codes}
use Rattle.std.specs.Str.{str_eq_ignore_ascii_case}
use Rattle.just_path_text.specs.Environ.{home_of}
use Rattle.just_lang_syntax.specs.declared.ast.AstItem.{AstItem}
use Rattle.just_lang_syntax.specs.declared.ast.AstItem.TheVariants as item
use Rattle.just_lang_syntax.specs.declared.ast.StringLiteral.{StringLiteral}
use Rattle.just_lang_syntax.specs.declared.error.Fault.{Fault}
use Rattle.just_lang_syntax.specs.declared.error.ParseError.TheVariants as parse_error
use Rattle.just_lang_syntax.specs.Faults.{Refuses}
use Rattle.just_lang_types.specs.declared.source.Source.{Source}
use Rattle.just_lang_types.specs.Trees.{IsTree}
use Rattle.just_lang_layout.specs.Paths.{Pairs, Means, path_under}
use Rattle.just_lang_layout.specs.Targets.{module_base}
use Rattle.just_host_record.specs.World.{World}
use Rattle.just_env.specs.declared.search_error.SearchError.{SearchError}
use Rattle.just_search_load.specs.Gathers.{Gathers}
use Rattle.just_search_load.specs.Shown.{SeesFile, ListsNames}

-- the path, where a file stands there
abbrev pub IfPresent : Option World → List ℕ → Result (List (List ℕ)) SearchError → Type 0
IfPresent told path (Ok found) = (b : Bool) × SeesFile told path (Ok b) × (found ≡ (if b then path ∷ [] else []))
IfPresent told path (Err e) = SeesFile told path (Err e)

-- ---- by strings

abbrev pub path_list : Option (List ℕ) → List (List ℕ)
path_list None = []
path_list (Some path) = path ∷ []

-- the path that a text means in a file of that root; none where it means none
abbrev pub paths_meant : Option (List ℕ) → List ℕ → Option (List ℕ) → List (List ℕ)
paths_meant home root None = []
paths_meant home root (Some text) = path_list (path_under home root text)

-- the file that a string in a file of that root names
abbrev pub NamesFile : Option World → Pairs → List ℕ → StringLiteral → Result (List (List ℕ)) SearchError → Type 0
NamesFile told environ root s r = (text : Option (List ℕ)) × Means environ s text × Gathers (IfPresent told) (paths_meant (home_of environ) root text) r

-- ---- modules without a string

abbrev pub is_justfile_name : List ℕ → Bool
is_justfile_name name = str_eq_ignore_ascii_case name (codes "justfile") || str_eq_ignore_ascii_case name (codes ".justfile")

-- the paths of the files that may be a module's: that is its name's path, and those are the names in the folder there
abbrev pub module_paths : List ℕ → List (List ℕ) → List (List ℕ)
module_paths base names =
    (base ++ codes ".just") ∷ (base ++ codes "/mod.just") ∷ map (λ name. base ++ 47 ∷ name) (filter is_justfile_name names)

-- the files that may be a module's
pub data ModuleFiles (told : Option World) (base : List ℕ) (r : Result (List (List ℕ)) SearchError) : Type 0 where
  of_folder : (names : List (List ℕ)) → ListsNames told base (Ok names) → Gathers (IfPresent told) (module_paths base names) r → ModuleFiles told base r
  refused_folder : (e : SearchError) → ListsNames told base (Err e) → r ≡ Err e → ModuleFiles told base r

-- ---- items

abbrev pub ModuleNames : Option World → Pairs → List ℕ → List ℕ → Option StringLiteral → Result (List (List ℕ)) SearchError → Type 0
ModuleNames told environ root name None r = ModuleFiles told (module_base root name) r
ModuleNames told environ root name (Some s) r = NamesFile told environ root s r

-- the files that an item of a file of that root names
abbrev pub ItemNames : Option World → Pairs → List ℕ → AstItem → Result (List (List ℕ)) SearchError → Type 0
ItemNames told environ root (item.Import optional s comment) r = NamesFile told environ root s r
ItemNames told environ root (item.Module attributes optional name s comment) r = ModuleNames told environ root name.text s r
ItemNames told environ root item.Blank r = r ≡ Ok []
ItemNames told environ root (item.Comment text) r = r ≡ Ok []
ItemNames told environ root (item.Alias name path comment) r = r ≡ Ok []
ItemNames told environ root (item.Assignment export name value comment) r = r ≡ Ok []
ItemNames told environ root (item.Unexport name comment) r = r ≡ Ok []
ItemNames told environ root (item.Setting name value comment) r = r ≡ Ok []
ItemNames told environ root (item.Recipe x) r = r ≡ Ok []

-- the items of a source, or the fault for which its text is refused
abbrev pub HasTree : Source → Result (List AstItem) Fault → Type 0
HasTree s (Ok items) = IsTree s.text items
HasTree s (Err fault) = Refuses (chars s.text) (parse_error.Fault fault)

-- the files that a source names, in the order of its items; a source whose text is refused names none
pub data SourceNames (told : Option World) (environ : Pairs) (s : Source) (r : Result (List (List ℕ)) SearchError) : Type 0 where
  of_items : (items : List AstItem) → HasTree s (Ok items) → Gathers (ItemNames told environ s.root) items r → SourceNames told environ s r
  of_no_text : (fault : Fault) → HasTree s (Err fault) → r ≡ Ok [] → SourceNames told environ s r
