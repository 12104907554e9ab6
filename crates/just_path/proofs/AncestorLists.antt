-- A parent is shorter than its path, so a path and its parents are one list, however many of them are asked for.
use Rattle.std.proofs.Common.{◌≡◌, ℕ, zero, suc, ◌+◌, ◌<◌, ◌≤◌, Bool, true, false, ◌||◌, eqb, cond, nat_lt, Option, Some, None, List, [], ◌∷◌, ◌++◌, length, take, refl, sym, ap, ◌∙◌, arith, ⊎_elim, length-append, length-take}
use Rattle.std.specs.List.{flat_map}
use Rattle.std.specs.Str.{bytes_eq}
use Rattle.std.proofs.lemmas.Bool.{cases_lt}
use Rattle.std.proofs.lemmas.Bool.Decides.{nat_tests}
use Rattle.std.proofs.lemmas.List.{take_all}
use Rattle.just_path.specs.Comps.{Comp, prefix, root, current, parent, normal, dot, dots, pieces, is_empty, comps_of_piece, names, lead_of}
use Rattle.just_path.specs.Parts.{text_of_pieces, pieces_upto, text_upto, parent_of, parent_of_lead}
use Rattle.just_path.specs.Ancestors.{first_ancestors, ancestors_of, ancestors_from, bound_of}
use Rattle.just_path.proofs.Pieces.{text_of_pieces_of}
use Rattle.just_path.proofs.Leads
use Rattle.just_path.proofs.Walks.{names_front}
use Rattle.just_path.proofs.IteratorMoves.{no_names}

-- a piece gives one name at most
one_name : (p : List ℕ) → length (comps_of_piece p) ≤ 1
one_name p =
    elim (is_empty p || bytes_eq p dot) as (λ v. length (cond v [] (cond (bytes_eq p dots) (parent ∷ []) (normal p ∷ []))) ≤ 1) [
      | true ↦ omega arith
      | false ↦ elim (bytes_eq p dots) as (λ v. length (cond v (parent ∷ []) (normal p ∷ [])) ≤ 1) [ true ↦ omega arith | false ↦ omega arith ]
    ]

-- the length of a text of two pieces or more: the first, a slash, and the others
length_more : (p q : List ℕ) (qs : List (List ℕ)) → length (text_of_pieces (p ∷ q ∷ qs)) ≡ length p + (1 + length (text_of_pieces (q ∷ qs)))
length_more p q qs = length-append p (47 ∷ (q ++ flat_map (λ r. 47 ∷ r) qs)) ∙ omega arith

-- the length of the text of one piece
length_alone : (p : List ℕ) → length (text_of_pieces (p ∷ [])) ≡ length p
length_alone p = length-append p [] ∙ omega arith

-- pieces with a name among them have a text
joined_some : (ps : List (List ℕ)) → 0 < length (flat_map comps_of_piece ps) → 0 < length (text_of_pieces ps)
joined_some [] h = absurd (omega arith)
joined_some ([] ∷ []) h = absurd (omega arith)
joined_some ([] ∷ q ∷ qs) h = omega (arith, length_more [] q qs)
joined_some ((x ∷ p) ∷ ps) h = omega arith

-- a piece in front of two lists of pieces keeps which text is shorter
joined_step : (p : List ℕ) (us ps : List (List ℕ)) → 0 < length ps → length (text_of_pieces us) < length (text_of_pieces ps) → length (text_of_pieces (p ∷ us)) < length (text_of_pieces (p ∷ ps))
joined_step p us [] l h = absurd (omega arith)
joined_step p [] (q ∷ qs) l h = omega (arith, length_alone p, length_more p q qs)
joined_step p (u ∷ us) (q ∷ qs) l h = omega (arith, length_more p u us, length_more p q qs)

-- where pieces give a name, there are pieces
some_pieces : (ps : List (List ℕ)) → 0 < length (flat_map comps_of_piece ps) → 0 < length ps
some_pieces [] h = h
some_pieces (p ∷ ps) h = omega arith

-- one piece more, by whether it is kept
pieces_upto_case : (k : ℕ) (p : List ℕ) (ps : List (List ℕ)) (v : Bool) → nat_lt (suc k) (length (flat_map comps_of_piece (p ∷ ps))) ≡ v → (0 < length (flat_map comps_of_piece ps) → length (text_of_pieces (pieces_upto (suc k) ps)) < length (text_of_pieces ps)) → 0 < length (flat_map comps_of_piece (p ∷ ps)) → length (text_of_pieces (cond v (p ∷ pieces_upto (suc k) ps) [])) < length (text_of_pieces (p ∷ ps))
pieces_upto_case k p ps false e less h = joined_some (p ∷ ps) h
pieces_upto_case k p ps true e less h =
    let l : suc k < length (flat_map comps_of_piece (p ∷ ps)) = grind (arith, nat_tests) in
    let m : 0 < length (flat_map comps_of_piece ps) = omega (arith, one_name p, length-append (comps_of_piece p) (flat_map comps_of_piece ps)) in
    joined_step p (pieces_upto (suc k) ps) ps (some_pieces ps m) (less m)

-- pieces up to the last name but some are shorter than all
pieces_upto_shorter : (k : ℕ) (ps : List (List ℕ)) → 0 < length (flat_map comps_of_piece ps) → length (text_of_pieces (pieces_upto (suc k) ps)) < length (text_of_pieces ps)
pieces_upto_shorter k [] h = absurd (omega arith)
pieces_upto_shorter k (p ∷ ps) h = pieces_upto_case k p ps (nat_lt (suc k) (length (flat_map comps_of_piece (p ∷ ps)))) refl (pieces_upto_shorter k ps) h

-- a list with an item has a length above 0
some_names : (t : List ℕ) → is_empty (names t) ≡ false → 0 < length (names t)
some_names t h = elim (names t) as (λ ns. is_empty ns ≡ false → 0 < length ns) [ [] ↦ λ e. cc | n ∷ ns ↦ λ e. omega arith ] h

-- what stands in front of a name is shorter than the text
front_shorter : (t : List ℕ) → 0 < length (names t) → length (take (length (lead_of t)) t) < length t
front_shorter t h =
    ⊎_elim
    (λ (l : length (lead_of t) < length t). omega (arith, length-take (length (lead_of t)) t))
    (λ (l : length t ≤ length (lead_of t)). absurd (let e : names t ≡ [] = ap names (sym (take_all (length (lead_of t)) t l)) ∙ names_front t in let z : length (names t) ≡ 0 = ap length e in omega arith))
    (cases_lt (length (lead_of t)) (length t))

-- a text with a name is not empty
text_some : (t : List ℕ) → 0 < length (names t) → 0 < length t
text_some [] h = absurd (let z : length (names []) ≡ 0 = ap length no_names in omega arith)
text_some (b ∷ bs) h = omega arith

-- a text without its last name is shorter
text_upto_shorter : (t : List ℕ) → 0 < length (names t) → length (text_upto 1 t) < length t
unfolding text_upto names
text_upto_shorter t h =
    elim (nat_lt 1 (length (names t))) as (λ v. length (cond v (text_of_pieces (pieces_upto 1 (pieces t))) (cond (eqb 1 (length (names t))) (take (length (lead_of t)) t) [])) < length t) [
      | true ↦ (let a : length (text_of_pieces (pieces_upto 1 (pieces t))) < length (text_of_pieces (pieces t)) = pieces_upto_shorter 0 (pieces t) h in let e : length (text_of_pieces (pieces t)) ≡ length t = ap length (text_of_pieces_of t) in omega arith)
      | false ↦ elim (eqb 1 (length (names t))) as (λ v. length (cond v (take (length (lead_of t)) t) []) < length t) [ true ↦ front_shorter t h | false ↦ text_some t h ]
    ]

-- the parent of a path with no name is shorter than it
leading_shorter : (t : List ℕ) (ls : List Comp) → lead_of t ≡ ls → bound_of (parent_of_lead ls) ≤ length t
leading_shorter t [] h = omega arith
leading_shorter t (prefix p ∷ ls) h = omega arith
leading_shorter t (root ∷ ls) h = omega arith
leading_shorter [] (current ∷ ls) h = absurd (let e : [] ≡ current ∷ ls = sym Leads.leading_nil ∙ h in cc)
leading_shorter (b ∷ bs) (current ∷ ls) h = omega arith
leading_shorter t (parent ∷ ls) h = omega arith
leading_shorter t (normal p ∷ ls) h = omega arith

-- the two cases of a parent
parent_case : (t : List ℕ) (v : Bool) → is_empty (names t) ≡ v → bound_of (cond v (parent_of_lead (lead_of t)) (Some (text_upto 1 t))) ≤ length t
parent_case t true e = leading_shorter t (lead_of t) refl
parent_case t false e = omega (arith, text_upto_shorter t (some_names t e))

-- a parent is shorter than its path
pub parent_shorter : (t : List ℕ) → bound_of (parent_of t) ≤ length t
unfolding parent_of
parent_shorter t = parent_case t (is_empty (names t)) refl

-- so how many are asked for doesn't matter, if they are enough
same_ancestors : (n m : ℕ) (o : Option (List ℕ)) → bound_of o ≤ n → bound_of o ≤ m → first_ancestors n o ≡ first_ancestors m o
same_ancestors zero zero None a b = refl
same_ancestors zero (suc m) None a b = refl
same_ancestors (suc n) zero None a b = refl
same_ancestors (suc n) (suc m) None a b = refl
same_ancestors zero m (Some t) a b = absurd (omega arith)
same_ancestors (suc n) zero (Some t) a b = absurd (omega arith)
same_ancestors (suc n) (suc m) (Some t) a b = ap (λ ps. t ∷ ps) (same_ancestors n m (parent_of t) (omega (arith, parent_shorter t)) (omega (arith, parent_shorter t)))

-- enough of the ancestors are all of them
from_enough : (n : ℕ) (o : Option (List ℕ)) → bound_of o ≤ n → first_ancestors n o ≡ ancestors_from o
unfolding ancestors_of
from_enough n None h = same_ancestors n zero None h (omega arith)
from_enough n (Some t) h = same_ancestors n (suc (length t)) (Some t) h (omega arith)

-- the ancestors of a path are the path and those of its parent
pub ancestors_step : (t : List ℕ) → ancestors_of t ≡ t ∷ ancestors_from (parent_of t)
unfolding ancestors_of
ancestors_step t = ap (λ ps. t ∷ ps) (from_enough (length t) (parent_of t) (parent_shorter t))
