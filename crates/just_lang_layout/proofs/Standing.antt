-- The modules that items declare, from an item on.
use Rattle.std.proofs.Common.{◌≡◌, ℕ, ◌+◌, ◌<◌, List, [], ◌∷◌, ◌++◌, length, drop, get_or, sym, ap, ◌∙◌, append_assoc}
use Rattle.std.specs.Prelude.{Some, None}
use Rattle.std.specs.List.{cons_option}
use Rattle.just_lang_layout.specs.declared.layout.File.{File}
use Rattle.just_lang_layout.specs.declared.visit.Visit.{Visit}
use Rattle.just_lang_layout.specs.declared.pending.Declaration.{Declaration}
use Rattle.just_lang_layout.specs.Modules.{declaration_of, declarations}
use Rattle.just_lang_spots.proofs.ListLaws.{drop_here}

-- an item that declares none
pub goes_none : (fs : List File) (vs : List Visit) (found : List Declaration) (i : ℕ) (v : Visit) → i < length vs → v ≡ get_or vs i v → declaration_of fs v ≡ None
    → found ++ declarations fs (drop i vs) ≡ declarations fs vs → found ++ declarations fs (drop (i + 1) vs) ≡ declarations fs vs
goes_none fs vs found i v h e n s =
    ap (λ o. found ++ cons_option o (declarations fs (drop (i + 1) vs))) (sym n) ∙ ap (λ xs. found ++ declarations fs xs) (sym (drop_here vs i v h e)) ∙ s

-- an item that declares one
pub goes_some : (fs : List File) (vs : List Visit) (found : List Declaration) (i : ℕ) (v : Visit) (d : Declaration) → i < length vs → v ≡ get_or vs i v → declaration_of fs v ≡ Some d
    → found ++ declarations fs (drop i vs) ≡ declarations fs vs → (found ++ d ∷ []) ++ declarations fs (drop (i + 1) vs) ≡ declarations fs vs
goes_some fs vs found i v d h e n s =
    append_assoc found (d ∷ []) (declarations fs (drop (i + 1) vs))
    ∙ ap (λ o. found ++ cons_option o (declarations fs (drop (i + 1) vs))) (sym n) ∙ ap (λ xs. found ++ declarations fs xs) (sym (drop_here vs i v h e)) ∙ s
