-- When no recipe leads to itself.
use Rattle.std.specs.Prelude.{ℕ, zero, suc, ◌≡◌, Bool, true, false, List, [], ◌++◌, length, Option, Some, None, if◌then◌else◌}
use Rattle.std.specs.List.{list_all}
use Rattle.just_lang_types.specs.declared.recipe.Dependency.{Dependency}
use Rattle.just_lang_types.specs.declared.recipe.Modulepath.{Modulepath}
use Rattle.just_lang_types.specs.declared.project.Justfile.{Justfile}
use Rattle.just_lang_types.specs.Modules.{Located, located, recipe_at}

-- what the recipe of a path depends on
abbrev pub dependencies_of : Option Located → List Dependency
dependencies_of None = []
dependencies_of (Some l) = l.recipe.priors ++ l.recipe.subsequents

-- no chain of dependencies that begins at a path has more members than that
abbrev pub ends_within : List Justfile → ℕ → Modulepath → Bool
ends_within modules zero path = false
ends_within modules (suc n) path = list_all (λ d. ends_within modules n d.path) (dependencies_of (recipe_at modules path))

-- No recipe leads to itself: no chain of dependencies passes more recipes than there are.
abbrev pub AreEnding : List Justfile → Type 0
AreEnding modules = (path : Modulepath) → ends_within modules (suc (length (located modules))) path ≡ true

-- how many members a longest chain has that begins at a path, where none has more than n
abbrev pub longest_within : List Justfile → ℕ → Modulepath → ℕ
longest_within modules zero path = zero
longest_within modules (suc n) path = if ends_within modules n path then longest_within modules n path else suc n

abbrev pub longest : List Justfile → Modulepath → ℕ
longest modules path = longest_within modules (suc (length (located modules))) path
