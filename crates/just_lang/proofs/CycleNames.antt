-- The places of variables that lists of names add.
use Rattle.std.proofs.Common.{◌≡◌, ℕ, List, ◌++◌, Result, Ok, Err, sym, ap, ◌∙◌, append_assoc}
use Rattle.std.specs.Prelude.{OnOk}
use Rattle.std.proofs.lemmas.List.Elements.{filter_map-append}
use Rattle.just_lang_syntax.specs.declared.ast.Name.{Name}
use Rattle.just_lang_spots.specs.declared.index.Index.{Index}
use Rattle.just_lang_spots.specs.Entries.{place_in}
use Rattle.just_lang.specs.CycleTables.{places_in}

-- what two lists of names add one after the other is what both add
pub adds_two : (index : Index) (xs ys : List Name) (p q r : List ℕ) → q ≡ p ++ places_in index xs → r ≡ q ++ places_in index ys → r ≡ p ++ places_in index (xs ++ ys)
adds_two index xs ys p q r h k =
    k ∙ ap (λ (ps : List ℕ). ps ++ places_in index ys) h ∙ append_assoc p (places_in index xs) (places_in index ys)
    ∙ ap (λ (ps : List ℕ). p ++ ps) (sym (filter_map-append (λ (n : Name). place_in index n.text) xs ys))

-- and so do four
pub adds_four : (index : Index) (ws xs ys zs : List Name) (p q r s t : List ℕ) → q ≡ p ++ places_in index ws → r ≡ q ++ places_in index xs → s ≡ r ++ places_in index ys → t ≡ s ++ places_in index zs
    → t ≡ p ++ places_in index (ws ++ (xs ++ (ys ++ zs)))
adds_four index ws xs ys zs p q r s t a b d e =
    adds_two index ws (xs ++ (ys ++ zs)) p q t a (adds_two index xs (ys ++ zs) q r t b (adds_two index ys zs r s t d e))

-- what follows where a call succeeds
pub on_ok : {T E : Type 0} (P Q : Type 0) (r : Result T E) → (P → Q) → OnOk r P → OnOk r Q
on_ok P Q (Ok v) f h = f h
on_ok P Q (Err e) f h = tt
