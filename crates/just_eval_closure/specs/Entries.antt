-- A recipe that was found, with what its expressions see.
use Rattle.std.specs.Prelude.{◌≡◌, List, Option, Some, None, find, nat_eq, if◌then◌else◌}
use Rattle.std.specs.BTreeMap.{get}
use Rattle.std.specs.HashMap.{get as get_hashed}
use Rattle.just_path_text.specs.Environ.{or_else}
use Rattle.just_lang_types.specs.declared.recipe.Modulepath.{Modulepath}
use Rattle.just_lang_types.specs.declared.scope.Scopes.{Scopes}
use Rattle.just_lang_types.specs.Keys.{same_path}
use Rattle.just_eval_closure.specs.Hashes.{path_hash}
use Rattle.just_eval_closure.specs.Numbers.{path_cmp}
use Rattle.just_eval_closure.specs.Scopes.{pairs_for, scope_of}
use Rattle.just_eval_closure.specs.Dependencies.{levels_in}
use Rattle.just_lang_types.specs.Modules.{path_of, Located, located_at}
use Rattle.just_eval_closure.specs.declared.entry.Entry.{Entry}
use Rattle.just_eval_closure.specs.declared.entry.Index.{Index}

-- the recipe with its module
abbrev pub located_of : Entry → Located
located_of f = record { parent = f.parent.now; recipe = f.recipe.now }

-- the levels and the pairs are those of the recipe's module
pub record Sees (scopes : Scopes) (f : Entry) : Type 0 where
  pub levels : f.levels.now ≡ levels_in (scope_of scopes (path_of f.parent.now))
  pub pairs : f.pairs.now ≡ pairs_for scopes.dotenv (path_of f.parent.now)

-- what was found is that recipe, with what it sees; or there is none
abbrev pub IsFound : Scopes → Option Entry → Option Located → Type 0
IsFound scopes None None = Unit {0}
IsFound scopes None (Some l) = ⊥
IsFound scopes (Some f) None = ⊥
IsFound scopes (Some f) (Some l) = (located_of f ≡ l) × Sees scopes f

-- the entry at the hash of a path, where it has the path, and else the other one
abbrev pub first_or : Modulepath → Option Entry → Option Entry → Option Entry
first_or path None other = other
first_or path (Some e) other = if same_path e.recipe.now.path path then Some e else other

-- the entry of a path
abbrev pub indexed : Index → Modulepath → Option Entry
indexed index path = first_or path (get_hashed nat_eq index.firsts (path_hash path)) (get path_cmp index.others path)

-- the index finds for each path the first of these recipes that has it
abbrev pub AreEntries : Scopes → List Located → Index → Type 0
AreEntries scopes all index = (path : Modulepath) → IsFound scopes (indexed index path) (located_at all path)

-- the index has the first of these entries of each path
abbrev pub AreFirst : List Entry → Index → Type 0
AreFirst all index = (path : Modulepath) → indexed index path ≡ find (λ e. same_path e.recipe.now.path path) all

-- the later index has the entry under its path, where the earlier has nothing there, and else what the earlier has
abbrev pub Enters : Index → Entry → Index → Type 0
Enters earlier e later = (path : Modulepath) → indexed later path ≡ or_else (indexed earlier path) (if same_path e.recipe.now.path path then Some e else None)
