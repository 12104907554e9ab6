-- The table has the numbers of the modules so far.
use Rattle.std.proofs.Common.{◌≡◌, ℕ, List, [], ◌∷◌, ◌++◌, Some, take}
use Rattle.just_lang_names.specs.Lookup.{module_at}
use Rattle.just_lang_names.specs.Names.{child_in}
use Rattle.just_lang_names.proofs.children.children_of.Given as goal

abbrev pub invariant-modules : goal.invariant-modules
invariant-modules l =
    (path : List (List ℕ)) (outer : ℕ) → module_at l.modules path ≡ Some outer → (q : List ℕ) → child_in l.children outer q ≡ module_at (take l.number l.modules) (path ++ q ∷ [])
