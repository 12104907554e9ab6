-- The walk over the items of files, in their order, with those of the files that an item names behind it.
use Rattle.std.specs.Prelude.{◌==◌, ℕ, zero, suc, ◌+◌, Bool, true, false, if◌then◌else◌, List, [], ◌∷◌, ◌++◌, length, slice_get, Option, Some, None, unwrap_or}
use Rattle.std.specs.List.{list_any, find}
use Rattle.just_lang_layout.specs.declared.target.Target.{Target}
use Rattle.just_lang_layout.specs.declared.target.Target.TheVariants.{Nothing, Import, Module, Absent, MissingImport, MissingModule, Ambiguous, Homeless}
use Rattle.just_lang_layout.specs.declared.visit.Visit.{Visit}

-- the file that a target leads to: that of an import, and where modules are entered that of a module
abbrev pub leads : Bool → Target → Option ℕ
leads modules Nothing = None
leads modules (Import n) = Some n
leads modules (Module n) = if modules then Some n else None
leads modules Absent = None
leads modules MissingImport = None
leads modules MissingModule = None
leads modules Ambiguous = None
leads modules Homeless = None

-- the targets of a file's items
abbrev pub targets_of : List (List Target) → ℕ → List Target
targets_of table file = unwrap_or (slice_get table file) []

abbrev pub is_on : List ℕ → ℕ → Bool
is_on chain n = list_any (λ m. m == n) chain

-- whether a target leads to a file of the chain
abbrev pub is_circular : List ℕ → Option ℕ → Bool
is_circular chain None = false
is_circular chain (Some n) = is_on chain n

-- the visits behind an item: those of the file that it leads to, unless that is on the chain
abbrev pub visits_behind : (List ℕ → ℕ → List Visit) → List ℕ → Option ℕ → List Visit
visits_behind into chain None = []
visits_behind into chain (Some n) = if is_on chain n then [] else into (n ∷ chain) n

abbrev pub visit_at : Bool → List ℕ → ℕ → ℕ → Target → Visit
visit_at modules chain file i t = record { place = record { file = file; item = i }; target = t; circular = is_circular chain (leads modules t) }

-- the visits from the item of number i on, whose targets those are; the chain has the files on the way to it
abbrev pub visits_from : Bool → (List ℕ → ℕ → List Visit) → List ℕ → ℕ → ℕ → List Target → List Visit
visits_from modules into chain file i [] = []
visits_from modules into chain file i (t ∷ ts) =
    visit_at modules chain file i t ∷ (visits_behind into chain (leads modules t) ++ visits_from modules into chain file (i + 1) ts)

-- the visits of a file's items, through so many files at most: no chain has a file twice
abbrev pub visits : Bool → List (List Target) → ℕ → List ℕ → ℕ → List Visit
visits modules table zero chain file = []
visits modules table (suc depth) chain file = visits_from modules (visits modules table depth) chain file 0 (targets_of table file)

-- the visits of all that a file leads to
abbrev pub walk : Bool → List (List Target) → ℕ → List Visit
walk modules table file = visits modules table (length table) (file ∷ []) file

-- whether an item of that target breaks a rule on files, where it names a file on the way to it or doesn't
abbrev pub breaks : Bool → Target → Bool
breaks circular Nothing = false
breaks circular (Import n) = circular
breaks circular (Module n) = circular
breaks circular Absent = false
breaks circular MissingImport = true
breaks circular MissingModule = true
breaks circular Ambiguous = true
breaks circular Homeless = true

abbrev pub is_broken : Visit → Bool
is_broken v = breaks v.circular v.target

-- the first item that breaks a rule on files, on the walk from the root's file through imports and modules
abbrev pub first_broken : List (List Target) → Option Visit
first_broken table = find is_broken (walk true table 0)
