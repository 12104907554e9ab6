-- What a text is cut into at the last one of a character.
use Rattle.std.proofs.Common.{◌≡◌, ℕ, ◌<◌, ◌≤◌, ◌+◌, ◌++◌, true, false, List, [], ◌∷◌, refl, sym, ◌∙◌, ap, subst, length, take, drop, Bor, Option}
use Rattle.std.specs.Prelude.{Some, None}
use Rattle.std.specs.Str.Pattern.{RFindsChar}
use Rattle.std.specs.Option.{MatchOption}
use Rattle.std.proofs.lemmas.List.{take-append-drop}
use Rattle.std.proofs.lemmas.Str.Pattern.{NoCharPasses-char, drop_at_char}
use Rattle.just_lang_read.proofs.Prefixes.{same}
use Rattle.just_config_words.specs.Cuts.{holds}
use Rattle.just_config_words.proofs.Cuts.{IsWithout, is_without, holds_none, holds_it}
use Rattle.just_config.specs.Cuts.{up_to_last, behind_last}

pub up_to_it : (c : ℕ) (xs ys : List ℕ) → IsWithout c ys → up_to_last c (xs ++ (c ∷ ys)) ≡ xs ++ (c ∷ [])
up_to_it c [] ys h = let e = same c in let f = holds_none c ys h in rw f (rw e refl)
up_to_it c (x ∷ xs) ys h = let f = holds_it c xs ys in rw f (ap (λ t. x ∷ t) (up_to_it c xs ys h))

pub behind_last_it : (c : ℕ) (xs ys : List ℕ) → IsWithout c ys → behind_last c (xs ++ (c ∷ ys)) ≡ ys
behind_last_it c [] ys h = let e = same c in let f = holds_none c ys h in rw f (rw e refl)
behind_last_it c (x ∷ xs) ys h = let f = holds_it c xs ys in rw f (behind_last_it c xs ys h)

-- ---- what `rsplit_once` answers

abbrev pub IsCutLast : ℕ → List ℕ → Option (Bor (List ℕ) × Bor (List ℕ)) → Type 0
IsCutLast c bs r = MatchOption r (holds c bs ≡ false) (λ x. (holds c bs ≡ true) × (up_to_last c bs ≡ x.0.now ++ (c ∷ [])) × (behind_last c bs ≡ x.1.now))

abbrev pub IsRsplitOnceResult : ℕ → List ℕ → Option (Bor (List ℕ) × Bor (List ℕ)) → Type 0
IsRsplitOnceResult c bs r = MatchOption r (RFindsChar c bs None) (λ x. (i : ℕ) × (j : ℕ) × RFindsChar c bs (Some (i, j)) × (x.0.now ≡ take i bs) × (x.1.now ≡ drop j bs) × (i ≤ j) × (length x.0.now ≡ i) × (length x.1.now + j ≡ length bs))

pub cut_last : (c : ℕ) (bs : List ℕ) (r : Option (Bor (List ℕ) × Bor (List ℕ))) → IsRsplitOnceResult c bs r → c < 128 → IsCutLast c bs r
cut_last c bs None h l = holds_none c bs (is_without c bs (λ i k. NoCharPasses-char c bs i h l k))
cut_last c bs (Some x) h l =
    let i = h.0 in
    let j = h.1 in
    let whole : bs ≡ x.0.now ++ (c ∷ x.1.now) =
    sym (take-append-drop i bs) ∙ ap (λ t. take i bs ++ t) (drop_at_char c bs i j h.2.1 l) ∙ ap (λ t. t ++ (c ∷ drop j bs)) (sym h.3) ∙ ap (λ t. x.0.now ++ (c ∷ t)) (sym h.4) in
    let w : IsWithout c x.1.now = subst (IsWithout c) (sym h.4) (is_without c (drop j bs) (λ k m. NoCharPasses-char c (drop j bs) k h.2.0 l m)) in (
      ap (holds c) whole ∙ holds_it c x.0.now x.1.now,
      ap (up_to_last c) whole ∙ up_to_it c x.0.now x.1.now w,
      ap (behind_last c) whole ∙ behind_last_it c x.0.now x.1.now w,
    )
