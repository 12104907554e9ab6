-- How a text falls into pieces.
use Rattle.std.proofs.Common.{◌≡◌, ℕ, suc, ◌<◌, true, false, eqb, List, [], ◌∷◌, ◌++◌, length, get_or, refl, sym, ap, ◌∙◌, arith, cond, ⊎_elim, ◌≢◌}
use Rattle.just_path.specs.Comps.{with_first_byte, pieces, is_empty}
use Rattle.just_path.specs.Parts.{text_of_pieces}
use Rattle.std.proofs.lemmas.Bool.{cases_eq, ne_eqb}

-- a byte in front of pieces with others behind them
pub with_first_byte_append : (b : ℕ) (ps qs : List (List ℕ)) → is_empty ps ≡ false → with_first_byte b (ps ++ qs) ≡ with_first_byte b ps ++ qs
with_first_byte_append b [] qs h = cc
with_first_byte_append b (p ∷ ps) qs h = refl

-- with a byte in front there is a piece
with_first_byte_filled : (b : ℕ) (ps : List (List ℕ)) → is_empty (with_first_byte b ps) ≡ false
with_first_byte_filled b [] = refl
with_first_byte_filled b (p ∷ ps) = refl

-- each text has a piece
pub pieces_filled : (t : List ℕ) → is_empty (pieces t) ≡ false
pieces_filled [] = refl
pieces_filled (b ∷ bs) =
    elim (eqb b 47) as (λ v. is_empty (cond v ([] ∷ pieces bs) (with_first_byte b (pieces bs))) ≡ false) [ true ↦ refl | false ↦ with_first_byte_filled b (pieces bs) ]

-- a text with a slash in it has the pieces before it and those behind it
pub pieces_slash : (a b : List ℕ) → pieces (a ++ 47 ∷ b) ≡ pieces a ++ pieces b
pieces_slash [] b = refl
pieces_slash (x ∷ a) b =
    rw (pieces_slash a b)
    (elim (eqb x 47) as (λ v. cond v ([] ∷ (pieces a ++ pieces b)) (with_first_byte x (pieces a ++ pieces b)) ≡ cond v ([] ∷ pieces a) (with_first_byte x (pieces a)) ++ pieces b) [
      | true ↦ refl
      | false ↦ with_first_byte_append x (pieces a) (pieces b) (pieces_filled a)
    ])

-- a text with no slash is one piece
pub pieces_plain : (t : List ℕ) → ((k : ℕ) → k < length t → eqb (get_or t k 0) 47 ≡ false) → pieces t ≡ t ∷ []
pieces_plain [] h = refl
pieces_plain (b ∷ bs) h =
    let here : eqb b 47 ≡ false = h 0 (omega arith) in
    rw (here, pieces_plain bs (λ k l. h (suc k) (omega arith))) refl

-- the text of pieces with a byte in front is that byte and their text
text_of_pieces_with_first_byte : (b : ℕ) (ps : List (List ℕ)) → text_of_pieces (with_first_byte b ps) ≡ b ∷ text_of_pieces ps
text_of_pieces_with_first_byte b [] = refl
text_of_pieces_with_first_byte b (p ∷ ps) = refl

-- the text of an empty piece in front of others is a slash and their text
text_of_more_pieces : (ps : List (List ℕ)) → is_empty ps ≡ false → text_of_pieces ([] ∷ ps) ≡ 47 ∷ text_of_pieces ps
text_of_more_pieces [] h = cc
text_of_more_pieces (p ∷ ps) h = refl

-- the pieces, joined again
pub text_of_pieces_of : (t : List ℕ) → text_of_pieces (pieces t) ≡ t
text_of_pieces_of [] = refl
text_of_pieces_of (b ∷ bs) =
    ⊎_elim
    (λ (e : b ≡ 47). ap (λ v. text_of_pieces (pieces (v ∷ bs))) e ∙ text_of_more_pieces (pieces bs) (pieces_filled bs) ∙ ap (λ r. 47 ∷ r) (text_of_pieces_of bs) ∙ ap (λ v. v ∷ bs) (sym e))
    (λ (n : b ≢ 47). let f : eqb b 47 ≡ false = ne_eqb b 47 n in rw (f, text_of_pieces_with_first_byte b (pieces bs), text_of_pieces_of bs) refl)
    (cases_eq b 47)
