-- What the items of files say of other files.
use Rattle.std.specs.Prelude.{◌≡◌, ℕ, ◌||◌, ◌&&◌, nat_le, nat_eq, Bool, if◌then◌else◌, List, [], ◌∷◌, map, drop, length, position, count_by, Option, Some, None, bytes_eq, codes}
use Rattle.std.specs.List.{starts_with}
use Rattle.std.specs.Str.{str_eq_ignore_ascii_case}
use Rattle.just_path.specs.Path.{pushed}
use Rattle.just_path.specs.Clean.{cleaned}
use Rattle.just_path_text.specs.Environ.{home_of}
use Rattle.just_lang_syntax.specs.declared.ast.AstItem.{AstItem}
use Rattle.just_lang_syntax.specs.declared.ast.AstItem.TheVariants as item
use Rattle.just_lang_syntax.specs.declared.ast.StringLiteral.{StringLiteral}
use Rattle.just_lang_layout.specs.declared.layout.File.{File}
use Rattle.just_lang_layout.specs.declared.target.Target.{Target}
use Rattle.just_lang_layout.specs.declared.target.Target.TheVariants.{Nothing, Import, Module, Absent, MissingImport, MissingModule, Ambiguous, Homeless}
use Rattle.just_lang_layout.specs.Paths.{Pairs, Means, path_under}

-- the clean paths of files
abbrev pub paths_of : List File → List (List ℕ)
paths_of files = map (λ f. cleaned f.path) files

-- the number of the first file of that path
abbrev pub number_of : List (List ℕ) → List ℕ → Option ℕ
number_of paths path = position (λ p. bytes_eq p path) paths

-- ---- imports

abbrev pub found_import : Bool → Option ℕ → Target
found_import optional (Some n) = Import n
found_import optional None = if optional then Nothing else MissingImport

abbrev pub import_at : List (List ℕ) → Bool → Option (List ℕ) → Target
import_at paths optional None = Homeless
import_at paths optional (Some path) = found_import optional (number_of paths path)

-- the target of an import whose string means that text
abbrev pub import_target : Option (List ℕ) → List (List ℕ) → List ℕ → Bool → Option (List ℕ) → Target
import_target home paths root optional None = Nothing
import_target home paths root optional (Some text) = import_at paths optional (path_under home root text)

-- ---- modules

abbrev pub found_module : Bool → Option ℕ → Target
found_module optional (Some n) = Module n
found_module optional None = if optional then Absent else MissingModule

abbrev pub module_at : List (List ℕ) → Bool → Option (List ℕ) → Target
module_at paths optional None = Homeless
module_at paths optional (Some path) = found_module optional (number_of paths path)

-- the target of a module whose string means that text
abbrev pub module_target : Option (List ℕ) → List (List ℕ) → List ℕ → Bool → Option (List ℕ) → Target
module_target home paths root optional None = Nothing
module_target home paths root optional (Some text) = module_at paths optional (path_under home root text)

-- whether this, behind a module's name, makes the path of a file that may be its
abbrev pub is_module_end : List ℕ → Bool
is_module_end end =
    bytes_eq end (codes ".just") || (bytes_eq end (codes "/mod.just")
    || (str_eq_ignore_ascii_case end (codes "/justfile") || str_eq_ignore_ascii_case end (codes "/.justfile")))

-- whether a path is that of a file that may be the module's whose name's path is that
abbrev pub is_module_file : List ℕ → List ℕ → Bool
is_module_file base path = starts_with nat_eq path base && is_module_end (drop (length base) path)

-- the path of a module's name beside a file of that root
abbrev pub module_base : List ℕ → List ℕ → List ℕ
module_base root name = cleaned (pushed root name)

-- one of so many files
abbrev pub one_of : Bool → Option ℕ → ℕ → Target
one_of optional None count = if optional then Absent else MissingModule
one_of optional (Some n) count = if nat_le count 1 then Module n else Ambiguous

-- the target of a module without a string, beside a file of that root
abbrev pub module_beside : List (List ℕ) → List ℕ → List ℕ → Bool → Target
module_beside paths root name optional =
    one_of optional (position (is_module_file (module_base root name)) paths) (count_by (is_module_file (module_base root name)) paths)

-- ---- items

-- the target of an import by its string
abbrev pub IsImportTarget : Pairs → List (List ℕ) → List ℕ → Bool → StringLiteral → Target → Type 0
IsImportTarget environ paths root optional s t = (text : Option (List ℕ)) × Means environ s text × (t ≡ import_target (home_of environ) paths root optional text)

-- the target of a module by its name and its string, if it has one
abbrev pub IsModuleTarget : Pairs → List (List ℕ) → List ℕ → List ℕ → Bool → Option StringLiteral → Target → Type 0
IsModuleTarget environ paths root name optional None t = t ≡ module_beside paths root name optional
IsModuleTarget environ paths root name optional (Some s) t = (text : Option (List ℕ)) × Means environ s text × (t ≡ module_target (home_of environ) paths root optional text)

-- the target of an item of a file of that root, among files of those paths
abbrev pub IsTarget : Pairs → List (List ℕ) → List ℕ → AstItem → Target → Type 0
IsTarget environ paths root item.Blank t = t ≡ Nothing
IsTarget environ paths root (item.Comment text) t = t ≡ Nothing
IsTarget environ paths root (item.Alias name path comment) t = t ≡ Nothing
IsTarget environ paths root (item.Import optional s comment) t = IsImportTarget environ paths root optional s t
IsTarget environ paths root (item.Module attributes optional name s comment) t = IsModuleTarget environ paths root name.text optional s t
IsTarget environ paths root (item.Assignment export name value comment) t = t ≡ Nothing
IsTarget environ paths root (item.Unexport name comment) t = t ≡ Nothing
IsTarget environ paths root (item.Setting name value comment) t = t ≡ Nothing
IsTarget environ paths root (item.Recipe r) t = t ≡ Nothing

-- the targets of items, one for each
abbrev pub AreItemTargets : Pairs → List (List ℕ) → List ℕ → List AstItem → List Target → Type 0
AreItemTargets environ paths root [] [] = Unit {0}
AreItemTargets environ paths root [] (t ∷ ts) = ⊥
AreItemTargets environ paths root (x ∷ xs) [] = ⊥
AreItemTargets environ paths root (x ∷ xs) (t ∷ ts) = IsTarget environ paths root x t × AreItemTargets environ paths root xs ts

-- the targets of the items of files, a list for each
abbrev pub AreFileTargets : Pairs → List (List ℕ) → List File → List (List Target) → Type 0
AreFileTargets environ paths [] [] = Unit {0}
AreFileTargets environ paths [] (ts ∷ rows) = ⊥
AreFileTargets environ paths (f ∷ fs) [] = ⊥
AreFileTargets environ paths (f ∷ fs) (ts ∷ rows) = AreItemTargets environ paths f.root f.items ts × AreFileTargets environ paths fs rows

-- the targets of the items of all files, over an environment
abbrev pub AreTargets : Pairs → List File → List (List Target) → Type 0
AreTargets environ files table = AreFileTargets environ (paths_of files) files table
