-- The layout of sources, and why they have none.
use Rattle.std.specs.Prelude.{◌≡◌, ◌≢◌, ℕ, ◌++◌, List, [], map, filter, drop, length, slice_get, Option, Some, None, option_map, unwrap_or, IsPermutation, IsSorted}
use Rattle.std.specs.Ordering.{nat_cmp}
use Rattle.std.specs.Cmp.Lexicographic.{slice_cmp}
use Rattle.just_lang_types.specs.declared.source.Source.{Source}
use Rattle.just_lang_layout.specs.declared.error.LayoutError.{LayoutError}
use Rattle.just_lang_layout.specs.declared.error.LayoutError.TheVariants as error
use Rattle.just_lang_layout.specs.declared.layout.File.{File}
use Rattle.just_lang_layout.specs.declared.layout.Layout.{Layout}
use Rattle.just_lang_layout.specs.declared.layout.Module.{Module as ModuleOf}
use Rattle.just_lang_layout.specs.declared.layout.Placed.{Placed}
use Rattle.just_lang_layout.specs.declared.target.Target.{Target}
use Rattle.just_lang_layout.specs.declared.target.Target.TheVariants.{Nothing, Import, Module, Absent, MissingImport, MissingModule, Ambiguous, Homeless}
use Rattle.just_lang_layout.specs.declared.visit.Visit.{Visit}
use Rattle.just_lang_layout.specs.Files.{AreFilesOf}
use Rattle.just_lang_layout.specs.Paths.{Pairs}
use Rattle.just_lang_layout.specs.Targets.{paths_of, module_base, is_module_file, AreTargets}
use Rattle.just_lang_layout.specs.Walk.{first_broken}
use Rattle.just_lang_layout.specs.Imports.{imports_of}
use Rattle.just_lang_layout.specs.Modules.{name_at, modules_of}

-- the path of the file of that number
abbrev pub path_of : List File → ℕ → List ℕ
path_of files n = unwrap_or (option_map (λ f. f.path) (slice_get files n)) []

abbrev pub root_of : List File → ℕ → List ℕ
root_of files n = unwrap_or (option_map (λ f. f.root) (slice_get files n)) []

-- the paths, under a root, of the files of a module of that name; that is the path of the name
abbrev pub ends_with_name : List (List ℕ) → List ℕ → List ℕ → List (List ℕ)
ends_with_name paths base name = map (λ path. name ++ drop (length base) path) (filter (is_module_file base) paths)

-- the paths of the files of the module that an item declares, under the root of its file
abbrev pub module_files : List File → Placed → List (List ℕ)
module_files files p = ends_with_name (paths_of files) (module_base (root_of files p.file) (name_at files p)) (name_at files p)

-- an import of a file on the way to it
abbrev pub circular_import : List File → ℕ → ℕ → LayoutError
circular_import files current n = error.CircularImport (path_of files current) (path_of files n)

-- a module with several files, which are told in the order of their bytes
pub record IsAmbiguous (files : List File) (p : Placed) (e : LayoutError) : Type 0 where
  pub found : List (List ℕ)
  pub all : IsPermutation (module_files files p) found
  pub sorted : IsSorted (slice_cmp nat_cmp) found
  pub error_is : e ≡ error.AmbiguousModuleFile (name_at files p) found

-- the rule that an item of that target breaks at a place
abbrev pub BreaksAt : List File → Placed → Target → LayoutError → Type 0
BreaksAt files p Nothing e = ⊥
BreaksAt files p (Import n) e = e ≡ circular_import files p.file n
BreaksAt files p (Module n) e = e ≡ circular_import files p.file n
BreaksAt files p Absent e = ⊥
BreaksAt files p MissingImport e = e ≡ error.MissingImportFile
BreaksAt files p MissingModule e = e ≡ error.MissingModuleFile (name_at files p)
BreaksAt files p Ambiguous e = IsAmbiguous files p e
BreaksAt files p Homeless e = e ≡ error.Homedir

-- files have that first broken rule
abbrev pub Breaks : List File → Option Visit → LayoutError → Type 0
Breaks files None e = ⊥
Breaks files (Some v) e = BreaksAt files v.place v.target e

-- files whose items have those targets have those modules and imports, and break no rule on files
pub record IsLaid (files : List File) (table : List (List Target)) (modules : List ModuleOf) (imports : List (List ℕ)) : Type 0 where
  pub sound : first_broken table ≡ None
  pub modules_are : modules ≡ modules_of files table
  pub imports_are : imports ≡ imports_of table

-- the layout of sources over an environment
pub record IsLayoutOf (sources : List Source) (environ : Pairs) (layout : Layout) : Type 0 where
  pub files : AreFilesOf sources layout.files
  pub table : List (List Target)
  pub targets : AreTargets environ layout.files table
  pub laid : IsLaid layout.files table layout.modules layout.imports

-- sources have no layout over an environment, for that first broken rule
pub record HasNoLayout (sources : List Source) (environ : Pairs) (e : LayoutError) : Type 0 where
  pub files : List File
  pub files_are : AreFilesOf sources files
  pub table : List (List Target)
  pub targets : AreTargets environ files table
  pub breaks : Breaks files (first_broken table) e

-- why sources are refused; want of memory says nothing
abbrev pub Refuses : List Source → Pairs → LayoutError → Type 0
Refuses sources environ e = e ≢ error.NoMemory → HasNoLayout sources environ e
