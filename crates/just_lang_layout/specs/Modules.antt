-- The modules of a project.
use Rattle.std.specs.Prelude.{ℕ, zero, suc, ◌-◌, Bool, false, not, ◌&&◌, if◌then◌else◌, List, [], ◌∷◌, ◌++◌, map, filter, filter_map, length, slice_get, Option, Some, None, option_map, is_some, is_none, unwrap_or, bytes_eq}
use Rattle.std.specs.List.{list_any, flat_map}
use Rattle.just_lang_syntax.specs.declared.ast.AstItem.{AstItem}
use Rattle.just_lang_syntax.specs.declared.ast.AstItem.TheVariants as item
use Rattle.just_lang_layout.specs.declared.layout.File.{File}
use Rattle.just_lang_layout.specs.declared.layout.Placed.{Placed}
use Rattle.just_lang_layout.specs.declared.layout.Module.{Module as ModuleOf}
use Rattle.just_lang_layout.specs.declared.target.Target.{Target}
use Rattle.just_lang_layout.specs.declared.target.Target.TheVariants.{Nothing, Import, Module, Absent, MissingImport, MissingModule, Ambiguous, Homeless}
use Rattle.just_lang_layout.specs.declared.visit.Visit.{Visit}
use Rattle.just_lang_layout.specs.declared.pending.Declaration.{Declaration}
use Rattle.just_lang_layout.specs.declared.pending.Pending.{Pending}
use Rattle.just_lang_layout.specs.Items.{item_in}
use Rattle.just_lang_layout.specs.Walk.{leads, walk}

-- ---- the items of a module

-- whether the walk comes to an item of the module itself: an import that is there gives its file's items in its place
abbrev pub is_own : Visit → Bool
is_own v = is_none (leads false v.target)

-- the items of a module of that file, those of imports in their places
abbrev pub own_visits : List (List Target) → ℕ → List Visit
own_visits table file = filter is_own (walk false table file)

-- ---- the modules that a module declares

abbrev pub name_in : Option AstItem → List ℕ
name_in None = []
name_in (Some item.Blank) = []
name_in (Some (item.Comment text)) = []
name_in (Some (item.Alias name path comment)) = []
name_in (Some (item.Import optional s comment)) = []
name_in (Some (item.Module attributes optional name s comment)) = name.text
name_in (Some (item.Assignment export name value comment)) = []
name_in (Some (item.Unexport name comment)) = []
name_in (Some (item.Setting name value comment)) = []
name_in (Some (item.Recipe r)) = []

-- the name of the module that an item declares
abbrev pub name_at : List File → Placed → List ℕ
name_at files p = name_in (item_in (slice_get files p.file) p.item)

-- the file of a module, if it is there
abbrev pub module_file : Target → Option (Option ℕ)
module_file Nothing = None
module_file (Import n) = None
module_file (Module n) = Some (Some n)
module_file Absent = Some None
module_file MissingImport = None
module_file MissingModule = None
module_file Ambiguous = None
module_file Homeless = None

abbrev pub declaration_at : List File → Placed → Option ℕ → Declaration
declaration_at files p file = record { place = p; name = name_at files p; file = file }

-- the module that an item declares
abbrev pub declaration_of : List File → Visit → Option Declaration
declaration_of files v = option_map (declaration_at files v.place) (module_file v.target)

abbrev pub has_name : List ℕ → Declaration → Bool
has_name name d = bytes_eq d.name name

abbrev pub is_there : Declaration → Bool
is_there d = is_some d.file

-- those without a later one of the same name
abbrev pub last_of_each : List Declaration → List Declaration
last_of_each [] = []
last_of_each (d ∷ ds) = if list_any (has_name d.name) ds then last_of_each ds else d ∷ last_of_each ds

-- the modules that stand: of several of one name the last, and one that is there wins over an absent one
abbrev pub there : List Declaration → List Declaration
there ds = last_of_each (filter is_there ds)

abbrev pub is_absent : List Declaration → Declaration → Bool
is_absent ds d = not (is_there d) && not (list_any (has_name d.name) (filter is_there ds))

-- the absent ones that stand
abbrev pub absent : List Declaration → List Declaration
absent ds = last_of_each (filter (is_absent ds) ds)

-- ---- modules

abbrev pub declarations : List File → List Visit → List Declaration
declarations files vs = filter_map (declaration_of files) vs

-- a module of those items, which declare those modules
abbrev pub module_with : Pending → List Visit → List Declaration → ModuleOf
module_with p vs ds = record {
  path = record { components = p.path };
  file = p.file;
  declaration = p.declaration;
  placed = map (λ v. v.place) vs;
  absent = map (λ d. d.place) (absent ds);
}

abbrev pub module_of : List File → List (List Target) → Pending → ModuleOf
module_of files table p = module_with p (own_visits table p.file) (declarations files (own_visits table p.file))

abbrev pub child : Pending → Declaration → Pending
child p d = record { path = p.path ++ d.name ∷ []; file = unwrap_or d.file 0; declaration = Some d.place; depth = p.depth - 1 }

-- the modules within a module
abbrev pub children : List File → List (List Target) → Pending → List Pending
children files table p = map (child p) (there (declarations files (own_visits table p.file)))

-- a module, and behind it those within it, so many deep at most: each module in a module has another file
abbrev pub modules_from : List File → List (List Target) → ℕ → Pending → List ModuleOf
modules_from files table zero p = module_of files table p ∷ []
modules_from files table (suc depth) p = module_of files table p ∷ flat_map (modules_from files table depth) (children files table p)

-- the root, the module of the first file
abbrev pub root_module : ℕ → Pending
root_module depth = record { path = []; file = 0; declaration = None; depth = depth }

-- the modules of files whose items have those targets
abbrev pub modules_of : List File → List (List Target) → List ModuleOf
modules_of files table = modules_from files table (length table) (root_module (length table))
