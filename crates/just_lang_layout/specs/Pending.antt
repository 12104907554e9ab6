-- The modules that are still to be made: a stack, the next on top.
use denote.Ref.{Bor}
use Rattle.std.specs.Prelude.{◌≡◌, ℕ, zero, suc, map, List, [], ◌∷◌, ◌++◌}
use Rattle.std.specs.List.{flat_map, list_any}
use Rattle.std.specs.Ordering.{nat_cmp}
use Rattle.std.specs.Cmp.Lexicographic.{slice_cmp}
use Rattle.std.specs.BTreeSet.{BTreeSet, contains}
use Rattle.std.specs.declared.cmp.Ordering.{Ordering}
use Rattle.just_lang_layout.specs.declared.layout.File.{File}
use Rattle.just_lang_layout.specs.declared.layout.Module.{Module}
use Rattle.just_lang_layout.specs.declared.target.Target.{Target}
use Rattle.just_lang_layout.specs.declared.pending.Pending.{Pending}
use Rattle.just_lang_layout.specs.declared.pending.Declaration.{Declaration}
use Rattle.just_lang_layout.specs.Modules.{has_name, modules_from, child, there}

-- a module and those within it
abbrev pub made_of : List File → List (List Target) → Pending → List Module
made_of files table p = modules_from files table p.depth p

abbrev pub all_of : List File → List (List Target) → List Pending → List Module
all_of files table ps = flat_map (made_of files table) ps

-- those within a module that declares these, so many deep at most
abbrev pub within : List File → List (List Target) → ℕ → Pending → List Declaration → List Module
within files table zero p ds = []
within files table (suc depth) p ds = all_of files table (map (child p) (there ds))

-- those of a stack, the last first
abbrev pub modules_left : List File → List (List Target) → List Pending → List Module
modules_left files table [] = []
modules_left files table (p ∷ ps) = modules_left files table ps ++ made_of files table p

-- the order of borrowed texts
abbrev pub text_cmp : Bor (List ℕ) → Bor (List ℕ) → Ordering
text_cmp x y = slice_cmp nat_cmp x.now y.now

-- a set has the names of declarations and no others
abbrev pub HasNames : List Declaration → BTreeSet (Bor (List ℕ)) → Type 0
HasNames ds names = (q : Bor (List ℕ)) → contains text_cmp names q ≡ list_any (has_name q.now) ds
