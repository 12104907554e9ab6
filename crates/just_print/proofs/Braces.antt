-- The braces of texts of bodies, letter by letter.
use Rattle.std.proofs.Common.{◌≡◌, ℕ, Bool, true, false, not, ◌&&◌, ◌==◌, List, [], ◌∷◌, ◌++◌, codes, refl, sym, ap, append_assoc, append-nil}
use Rattle.std.proofs.Common.{arith}
use Rattle.std.proofs.lemmas.Bool.{eqb-true}
use Rattle.std.proofs.lemmas.Str.{encode_ascii}
use Rattle.std.specs.Prelude.{encode_utf8, encode_utf8_all}
use Rattle.just_print.specs.Printed.{only_if, doubled}

-- a text behind a brace that may be the first of two, or not, with each second brace doubled
abbrev pub doubled_from : Bool → List ℕ → List ℕ
doubled_from behind_brace [] = []
doubled_from behind_brace (c ∷ rest) = c ∷ (only_if (behind_brace && c == 123) (codes "{{") ++ doubled_from (not behind_brace && c == 123) rest)

-- braces that are wanted stand for themselves in UTF-8
braces_encoded : (wanted : Bool) (rest : List ℕ) → encode_utf8_all (only_if wanted (codes "{{") ++ rest) ≡ only_if wanted (codes "{{") ++ encode_utf8_all rest
braces_encoded true rest = ap (λ (t : List ℕ). t ++ (t ++ encode_utf8_all rest)) (encode_ascii 123 (omega arith))
braces_encoded false rest = refl

-- one more letter
pub letter_more : (out : List ℕ) (behind_brace : Bool) (c : ℕ) (rest : List ℕ)
    → ((out ++ encode_utf8 c) ++ only_if (behind_brace && c == 123) (codes "{{")) ++ encode_utf8_all (doubled_from (not behind_brace && c == 123) rest)
    ≡ out ++ encode_utf8_all (doubled_from behind_brace (c ∷ rest))
letter_more out b c rest =
    simp append_assoc (ap (λ (t : List ℕ). out ++ (encode_utf8 c ++ t)) (sym (braces_encoded (b && c == 123) (doubled_from (not b && c == 123) rest))))

-- at the end nothing is left
pub letters_done : (out : List ℕ) (behind_brace : Bool) → out ++ encode_utf8_all (doubled_from behind_brace []) ≡ out
letters_done out b = append-nil out

-- two letters in front
two : (b e : Bool) (c d : ℕ) (rest : List ℕ) → (c == 123) ≡ b → (d == 123) ≡ e → doubled (d ∷ rest) ≡ doubled_from false (d ∷ rest)
    → doubled rest ≡ doubled_from false rest → doubled (c ∷ d ∷ rest) ≡ doubled_from false (c ∷ d ∷ rest)
two true true c d rest h i k l = rw (h, i, eqb-true c 123 h, eqb-true d 123 i, l) refl
two true false c d rest h i k l = rw (h, i, k, i) refl
two false e c d rest h i k l = rw (h, k) refl

-- from the front on that is the text with its braces doubled
pub doubled_begin : (text : List ℕ) → doubled_from false text ≡ doubled text
doubled_begin [] = refl
doubled_begin (c ∷ []) = refl
doubled_begin (c ∷ d ∷ rest) = sym (two (c == 123) (d == 123) c d rest refl refl (sym (doubled_begin (d ∷ rest))) (sym (doubled_begin rest)))
