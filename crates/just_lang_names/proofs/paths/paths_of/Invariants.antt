-- The table has the numbers of the modules so far.
use Rattle.std.proofs.Common.{◌≡◌, ℕ, List, take}
use Rattle.std.specs.Ordering.{nat_cmp}
use Rattle.std.specs.Cmp.Lexicographic.{slice_cmp}
use Rattle.std.specs.BTreeMap.{get_by}
use Rattle.just_lang_names.specs.Lookup.{module_at}
use Rattle.just_lang_names.proofs.paths.paths_of.Given as goal

abbrev pub invariant-modules : goal.invariant-modules
invariant-modules l =
    (path : List (List ℕ)) → get_by (λ k. slice_cmp (slice_cmp nat_cmp) path k.now) l.numbers ≡ module_at (take l.number l.modules) path
