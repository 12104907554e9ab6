-- Overrides as a list in prose has them.
use Rattle.std.specs.Prelude.{ℕ, ◌++◌, List, [], ◌∷◌, map, codes}
use Rattle.std.specs.declared.cmp.Ordering.{Ordering}
use Rattle.std.specs.Ordering.{nat_cmp, ordering_then}
use Rattle.std.specs.Cmp.Lexicographic.{slice_cmp}
use Rattle.std.specs.BTreeMap.{insert_entry}
use Rattle.just_lang_types.specs.declared.scope.Override.{Override}
use Rattle.just_config_words.specs.Paths.{prefix_of}

-- the order of variables: by module path, and then by name
abbrev pub variable_cmp : List (List ℕ) × List ℕ → List (List ℕ) × List ℕ → Ordering
variable_cmp x y = ordering_then (slice_cmp (slice_cmp nat_cmp) x.0 y.0) (slice_cmp nat_cmp x.1 y.1)

-- an ordered map in which each override has set its variable, the first override first
abbrev pub set_all : List ((List (List ℕ) × List ℕ) × List ℕ) → List Override → List ((List (List ℕ) × List ℕ) × List ℕ)
set_all values [] = values
set_all values (o ∷ os) = set_all (insert_entry variable_cmp values (o.«module».components, o.name) o.value) os

-- a variable with its value: `module::name=value`
abbrev pub entry_text : (List (List ℕ) × List ℕ) × List ℕ → List ℕ
entry_text e = prefix_of e.0.0 ++ (e.0.1 ++ (codes "=" ++ e.1))

-- each variable once with its last value, in the order of variables
abbrev pub listed : List Override → List (List ℕ)
listed os = map entry_text (set_all [] os)
