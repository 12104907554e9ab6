-- The files that imports name, from an item on.
use Rattle.std.proofs.Common.{◌≡◌, ℕ, ◌+◌, ◌<◌, false, List, [], ◌∷◌, ◌++◌, length, drop, get_or, sym, ap, ◌∙◌, append_assoc}
use Rattle.std.specs.Prelude.{Some, None}
use Rattle.std.specs.List.{cons_option}
use Rattle.just_lang_layout.specs.declared.target.Target.{Target}
use Rattle.just_lang_layout.specs.Walk.{leads}
use Rattle.just_lang_layout.specs.Imports.{imports_in}
use Rattle.just_lang_spots.proofs.ListLaws.{drop_here}

-- an item that is no import of a file
pub no_import : (ts : List Target) (ns : List ℕ) (i : ℕ) (t : Target) → i < length ts → t ≡ get_or ts i t → leads false t ≡ None
    → ns ++ imports_in (drop i ts) ≡ imports_in ts → ns ++ imports_in (drop (i + 1) ts) ≡ imports_in ts
no_import ts ns i t h e n s =
    ap (λ o. ns ++ cons_option o (imports_in (drop (i + 1) ts))) (sym n) ∙ ap (λ us. ns ++ imports_in us) (sym (drop_here ts i t h e)) ∙ s

-- an import of a file
pub one_import : (ts : List Target) (ns : List ℕ) (i : ℕ) (t : Target) (n : ℕ) → i < length ts → t ≡ get_or ts i t → leads false t ≡ Some n
    → ns ++ imports_in (drop i ts) ≡ imports_in ts → (ns ++ n ∷ []) ++ imports_in (drop (i + 1) ts) ≡ imports_in ts
one_import ts ns i t n h e k s =
    append_assoc ns (n ∷ []) (imports_in (drop (i + 1) ts))
    ∙ ap (λ o. ns ++ cons_option o (imports_in (drop (i + 1) ts))) (sym k) ∙ ap (λ us. ns ++ imports_in us) (sym (drop_here ts i t h e)) ∙ s
