-- The first and the last piece of a text, by the place of a slash.
use Rattle.std.proofs.Common.{◌≡◌, ◌≢◌, ℕ, zero, suc, ◌+◌, ◌<◌, ◌≤◌, Bool, true, false, cond, List, [], ◌∷◌, ◌++◌, length, get_or, take, drop, refl, sym, ap, ◌∙◌, subst, arith, nat_lt, inl, inr, length-append, length-take, length-drop, append_assoc, ⊎_elim}
use Rattle.std.proofs.lemmas.Bool.{ne_eqb, cases_eq}
use Rattle.std.proofs.lemmas.Bool.Decides.{nat_tests}
use Rattle.std.proofs.lemmas.List.{take-append-drop, drop_more, get_or-take, get_or-drop, append-nil, take-take, nil_from_length}
use Rattle.std.specs.List.{flat_map}
use Rattle.std.proofs.lemmas.Grind.{flat_map-append}
use Rattle.just_path.specs.Comps.{pieces, is_empty, comps_of_piece, names, lead_of}
use Rattle.just_path.specs.Parts.{pieces_upto, pieces_from}
use Rattle.just_path.specs.Scan.{IsFirstPiece, IsLastPiece}
use Rattle.just_path.proofs.Pieces.{pieces_slash, pieces_plain}
use Rattle.just_path.proofs.Leads

-- a text without a slash is one piece
plain : (t : List ℕ) → ((k : ℕ) → k < length t → get_or t k 0 ≢ 47) → pieces t ≡ t ∷ []
plain t h = pieces_plain t (λ k l. ne_eqb (get_or t k 0) 47 (h k l))

-- a text is what stands before a slash, the slash, and what stands behind it
apart : (t : List ℕ) (i : ℕ) → i < length t → get_or t i 0 ≡ 47 → t ≡ take i t ++ 47 ∷ drop (i + 1) t
apart t i l e = sym (take-append-drop i t) ∙ ap (λ r. take i t ++ r) (drop_more t i 0 l ∙ ap (λ b. b ∷ drop (i + 1) t) e)

-- without a slash the whole text is the first piece
pub first_none : (t : List ℕ) → ((k : ℕ) → k < length t → get_or t k 0 ≢ 47) → IsFirstPiece t t []
first_none t h = record { split = inr (plain t h, refl); shorter = λ l. l }

-- the first slash ends the first piece
pub first_at : (t : List ℕ) (i : ℕ) → i < length t → get_or t i 0 ≡ 47 → ((k : ℕ) → k < i → get_or t k 0 ≢ 47) → IsFirstPiece t (take i t) (drop (i + 1) t)
first_at t i l e h = record {
  split = inl (ap pieces (apart t i l e) ∙ pieces_slash (take i t) (drop (i + 1) t) ∙ ap (λ ps. ps ++ pieces (drop (i + 1) t)) (plain (take i t)
      (λ k m. let a : k < i = omega (arith, length-take i t) in λ q. h k a (sym (get_or-take i t k 0 a) ∙ q))));
  shorter = λ m. omega (arith, length-drop (i + 1) t);
}

-- a name at the end is cut off by one more
pub pieces_upto_last : (k : ℕ) (ps : List (List ℕ)) (p : List ℕ) → pieces_upto (length (comps_of_piece p) + k) (ps ++ p ∷ []) ≡ pieces_upto k ps
pieces_upto_last k [] p =
    let e : nat_lt (length (comps_of_piece p) + k) (length (comps_of_piece p ++ [])) ≡ false = rw (append-nil (comps_of_piece p)) (grind (arith, nat_tests)) in
    rw e refl
pieces_upto_last k (q ∷ qs) p =
    let l : length (comps_of_piece q ++ flat_map comps_of_piece (qs ++ p ∷ [])) ≡ length (comps_of_piece q ++ flat_map comps_of_piece qs) + length (comps_of_piece p) =
    rw (flat_map-append comps_of_piece qs (p ∷ []), append-nil (comps_of_piece p), length-append (comps_of_piece q) (flat_map comps_of_piece qs ++ comps_of_piece p), length-append (flat_map comps_of_piece qs) (comps_of_piece p), length-append (comps_of_piece q) (flat_map comps_of_piece qs)) (omega arith) in
    let e : nat_lt (length (comps_of_piece p) + k) (length (comps_of_piece q ++ flat_map comps_of_piece (qs ++ p ∷ []))) ≡ nat_lt k (length (comps_of_piece q ++ flat_map comps_of_piece qs)) = rw l (grind (arith, nat_tests)) in
    rw (e, pieces_upto_last k qs p) refl

-- one piece, cut at its end, gives nothing
from_alone : (n k : ℕ) (p : List ℕ) (v : Bool) → is_empty (comps_of_piece p) ≡ v → pieces_upto (length (comps_of_piece p) + k) (pieces_from n (p ∷ [])) ≡ []
from_alone zero k p true e = rw e refl
from_alone zero k p false e = rw e (pieces_upto_last k [] p)
from_alone (suc n) k p true e = rw e refl
from_alone (suc zero) k p false e = rw e refl
from_alone (suc (suc n)) k p false e = rw e refl

-- the same of what stands behind the first n names
pub pieces_upto_from_last : (n k : ℕ) (ps : List (List ℕ)) (p : List ℕ) → pieces_upto (length (comps_of_piece p) + k) (pieces_from n (ps ++ p ∷ [])) ≡ pieces_upto k (pieces_from n ps)
pieces_upto_from_last n k [] p = from_alone n k p (is_empty (comps_of_piece p)) refl
pieces_upto_from_last zero k (q ∷ qs) p =
    elim (is_empty (comps_of_piece q)) as (λ v. pieces_upto (length (comps_of_piece p) + k) (cond v (pieces_from zero (qs ++ p ∷ [])) (q ∷ (qs ++ p ∷ []))) ≡ pieces_upto k (cond v (pieces_from zero qs) (q ∷ qs))) [
      | true ↦ pieces_upto_from_last zero k qs p
      | false ↦ pieces_upto_last k (q ∷ qs) p
    ]
pieces_upto_from_last (suc n) k (q ∷ qs) p =
    elim (is_empty (comps_of_piece q)) as (λ v. pieces_upto (length (comps_of_piece p) + k) (cond v (pieces_from (suc n) (qs ++ p ∷ [])) (pieces_from n (qs ++ p ∷ []))) ≡ pieces_upto k (cond v (pieces_from (suc n) qs) (pieces_from n qs))) [
      | true ↦ pieces_upto_from_last (suc n) k qs p
      | false ↦ pieces_upto_from_last n k qs p
    ]

-- what stands in front of a text that begins with `.` depends on its second byte alone
lead_second : (y : ℕ) (a b : List ℕ) → lead_of (46 ∷ y ∷ a) ≡ lead_of (46 ∷ y ∷ b)
lead_second y a b =
    ⊎_elim
    (λ (e : y ≡ 47). ap (λ v. lead_of (46 ∷ v ∷ a)) e ∙ Leads.leading_dot_slash a ∙ sym (Leads.leading_dot_slash b) ∙ ap (λ v. lead_of (46 ∷ v ∷ b)) (sym e))
    (λ (n : y ≢ 47). Leads.leading_dot_other y a n ∙ sym (Leads.leading_dot_other y b n))
    (cases_eq y 47)

-- what stands in front of a text is that of the text with a slash and more behind it
pub lead_same : (a b : List ℕ) → 0 < length a → lead_of a ≡ lead_of (a ++ 47 ∷ b)
lead_same [] b l = absurd (omega arith)
lead_same (x ∷ []) b l =
    ⊎_elim
    (λ (e : x ≡ 47). ap (λ v. lead_of (v ∷ [])) e ∙ Leads.leading_root [] ∙ sym (Leads.leading_root (47 ∷ b)) ∙ ap (λ v. lead_of (v ∷ 47 ∷ b)) (sym e))
    (λ (n : x ≢ 47). ⊎_elim
    (λ (e : x ≡ 46). ap (λ v. lead_of (v ∷ [])) e ∙ Leads.leading_dot ∙ sym (Leads.leading_dot_slash b) ∙ ap (λ v. lead_of (v ∷ 47 ∷ b)) (sym e))
    (λ (m : x ≢ 46). Leads.leading_other x [] n m ∙ sym (Leads.leading_other x (47 ∷ b) n m))
    (cases_eq x 46))
    (cases_eq x 47)
lead_same (x ∷ y ∷ a) b l =
    ⊎_elim
    (λ (e : x ≡ 47). ap (λ v. lead_of (v ∷ y ∷ a)) e ∙ Leads.leading_root (y ∷ a) ∙ sym (Leads.leading_root (y ∷ (a ++ 47 ∷ b))) ∙ ap (λ v. lead_of (v ∷ y ∷ (a ++ 47 ∷ b))) (sym e))
    (λ (n : x ≢ 47). ⊎_elim
    (λ (e : x ≡ 46). ap (λ v. lead_of (v ∷ y ∷ a)) e ∙ lead_second y a (a ++ 47 ∷ b) ∙ ap (λ v. lead_of (v ∷ y ∷ (a ++ 47 ∷ b))) (sym e))
    (λ (m : x ≢ 46). Leads.leading_other x (y ∷ a) n m ∙ sym (Leads.leading_other x (y ∷ (a ++ 47 ∷ b)) n m))
    (cases_eq x 46))
    (cases_eq x 47)

-- a list that is not empty has a length above 0
pub filled_longer : {A : Type 0} (xs : List A) → is_empty xs ≡ false → nat_lt 0 (length xs) ≡ true
filled_longer [] h = cc
filled_longer (x ∷ xs) h = grind (arith, nat_tests)

-- with a name at the end nothing is cut off
pub pieces_upto_whole : (ps : List (List ℕ)) (p : List ℕ) → is_empty (comps_of_piece p) ≡ false → pieces_upto 0 (ps ++ p ∷ []) ≡ ps ++ p ∷ []
pieces_upto_whole [] p h =
    let e : nat_lt 0 (length (comps_of_piece p ++ [])) ≡ true = rw (append-nil (comps_of_piece p)) (filled_longer (comps_of_piece p) h) in
    rw e refl
pieces_upto_whole (q ∷ qs) p h =
    let l : length (comps_of_piece q ++ flat_map comps_of_piece (qs ++ p ∷ [])) ≡ length (comps_of_piece q ++ flat_map comps_of_piece qs) + length (comps_of_piece p) =
    rw (flat_map-append comps_of_piece qs (p ∷ []), append-nil (comps_of_piece p), length-append (comps_of_piece q) (flat_map comps_of_piece qs ++ comps_of_piece p), length-append (flat_map comps_of_piece qs) (comps_of_piece p), length-append (comps_of_piece q) (flat_map comps_of_piece qs)) (omega arith) in
    let f : nat_lt 0 (length (comps_of_piece p)) ≡ true = filled_longer (comps_of_piece p) h in
    let e : nat_lt 0 (length (comps_of_piece q ++ flat_map comps_of_piece (qs ++ p ∷ []))) ≡ true = rw l (grind (arith, nat_tests)) in
    rw (e, pieces_upto_whole qs p h) refl

-- pieces without a name are cut to nothing
pub pieces_upto_nameless : (k : ℕ) (ps : List (List ℕ)) → length (flat_map comps_of_piece ps) ≡ 0 → pieces_upto k ps ≡ []
pieces_upto_nameless k [] h = refl
pieces_upto_nameless k (p ∷ ps) h =
    let e : nat_lt k (length (flat_map comps_of_piece (p ∷ ps))) ≡ false = rw h (grind (arith, nat_tests)) in
    rw e refl

-- the names of a text by its last piece
names_last : (t a : List ℕ) (p : List ℕ) → pieces t ≡ pieces a ++ p ∷ [] → names t ≡ names a ++ comps_of_piece p
unfolding names
names_last t a p e = ap (flat_map comps_of_piece) e ∙ flat_map-append comps_of_piece (pieces a) (p ∷ []) ∙ ap (λ ns. flat_map comps_of_piece (pieces a) ++ ns) (append-nil (comps_of_piece p))

-- before a slash that is no root something stands
front_filled : (t : List ℕ) (i low : ℕ) → low ≡ length (lead_of t) → low ≤ i → i < length t → get_or t i 0 ≡ 47 → 0 < length (take i t)
front_filled [] i low d l m e = absurd (omega arith)
front_filled (b ∷ bs) zero low d l m e = absurd (let one : length (lead_of (b ∷ bs)) ≡ 1 = ap (λ v. length (lead_of (v ∷ bs))) e ∙ ap length (Leads.leading_root bs) in omega arith)
front_filled (b ∷ bs) (suc i) low d l m e = omega arith

-- the last slash begins the last piece
pub last_at : (t : List ℕ) (i low : ℕ) → low ≡ length (lead_of t) → low ≤ i → i < length t → get_or t i 0 ≡ 47 → ((k : ℕ) → i < k → k < length t → get_or t k 0 ≢ 47) → IsLastPiece low t (take i t) (drop (i + 1) t)
last_at t i low d l m e h =
    let whole = apart t i m e in
    let one : pieces (drop (i + 1) t) ≡ drop (i + 1) t ∷ [] = plain (drop (i + 1) t) (λ k n. λ q. h (i + 1 + k) (omega arith) (omega (arith, length-drop (i + 1) t)) (sym (get_or-drop (i + 1) t k 0) ∙ q)) in
    let cut : pieces t ≡ pieces (take i t) ++ drop (i + 1) t ∷ [] = ap pieces whole ∙ pieces_slash (take i t) (drop (i + 1) t) ∙ ap (λ ps. pieces (take i t) ++ ps) one in
    record {
      gives = names_last t (take i t) (drop (i + 1) t) cut;
      ends = λ k. ap (pieces_upto (length (comps_of_piece (drop (i + 1) t)) + k)) cut ∙ pieces_upto_last k (pieces (take i t)) (drop (i + 1) t);
      ends_from = λ n k. ap (λ ps. pieces_upto (length (comps_of_piece (drop (i + 1) t)) + k) (pieces_from n ps)) cut ∙ pieces_upto_from_last n k (pieces (take i t)) (drop (i + 1) t);
      whole = λ f. ap (pieces_upto 0) cut ∙ pieces_upto_whole (pieces (take i t)) (drop (i + 1) t) f ∙ sym cut;
      begins = lead_same (take i t) (drop (i + 1) t) (front_filled t i low d l m e) ∙ ap lead_of (sym whole);
      front = take-take low i t l;
      kept = omega (arith, length-take i t);
      stands = (take i t ++ 47 ∷ [], whole ∙ sym (append_assoc (take i t) (47 ∷ []) (drop (i + 1) t)));
      shorter = omega (arith, length-take i t);
    }

-- an empty piece in front is passed over
from_empties : (n : ℕ) (ps : List (List ℕ)) → pieces_from n ([] ∷ ps) ≡ pieces_from n ps
from_empties zero ps = refl
from_empties (suc n) ps = refl

-- without a slash a relative text is one piece
whole_piece : (t : List ℕ) → lead_of t ≡ [] → 0 < length t → pieces t ≡ t ∷ [] → IsLastPiece 0 t [] t
unfolding names
whole_piece t e l one = record {
  gives = ap (flat_map comps_of_piece) one ∙ append-nil (comps_of_piece t);
  ends = λ k. ap (pieces_upto (length (comps_of_piece t) + k)) one ∙ pieces_upto_last k [] t ∙ sym (pieces_upto_nameless k ([] ∷ []) refl);
  ends_from = λ n k. ap (λ ps. pieces_upto (length (comps_of_piece t) + k) (pieces_from n ps)) one ∙ pieces_upto_from_last n k [] t ∙ sym (ap (pieces_upto k) (from_empties n []));
  whole = λ f. ap (pieces_upto 0) one ∙ pieces_upto_whole [] t f ∙ sym one;
  begins = Leads.leading_nil ∙ sym e;
  front = refl;
  kept = omega arith;
  stands = ([], refl);
  shorter = l;
}

-- an absolute text with no other slash is one piece behind the root
rooted_piece : (bs : List ℕ) → 0 < length bs → pieces bs ≡ bs ∷ [] → IsLastPiece 1 (47 ∷ bs) (47 ∷ []) bs
unfolding names
rooted_piece bs l one = record {
  gives = ap (λ ps. flat_map comps_of_piece ([] ∷ ps)) one ∙ append-nil (comps_of_piece bs);
  ends_from = λ n k. ap (λ ps. pieces_upto (length (comps_of_piece bs) + k) (pieces_from n ([] ∷ ps))) one ∙ pieces_upto_from_last n k ([] ∷ []) bs ∙ ap (pieces_upto k) (from_empties n [] ∙ sym (from_empties n ([] ∷ []) ∙ from_empties n []));
  ends = λ k. ap (λ ps. pieces_upto (length (comps_of_piece bs) + k) ([] ∷ ps)) one ∙ pieces_upto_last k ([] ∷ []) bs ∙ pieces_upto_nameless k ([] ∷ []) refl ∙ sym (pieces_upto_nameless k ([] ∷ [] ∷ []) refl);
  whole = λ f. ap (λ ps. pieces_upto 0 ([] ∷ ps)) one ∙ pieces_upto_whole ([] ∷ []) bs f ∙ ap (λ ps. [] ∷ ps) (sym one);
  begins = Leads.leading_root [] ∙ sym (Leads.leading_root bs);
  front = refl;
  kept = omega arith;
  stands = (47 ∷ [], refl);
  shorter = omega arith;
}

-- the same by the byte behind the dot
dot_case : (bs : List ℕ) (low : ℕ) → suc low ≡ length (lead_of (46 ∷ bs)) → suc low < suc (length bs) → ((k : ℕ) → suc low ≤ k → k < suc (length bs) → get_or (46 ∷ bs) k 0 ≢ 47) → ⊥
dot_case [] low d l h = omega arith
dot_case (c ∷ cs) low d l h =
    ⊎_elim
    (λ (e : c ≡ 47).
    let one : length (lead_of (46 ∷ c ∷ cs)) ≡ 1 = ap (λ v. length (lead_of (46 ∷ v ∷ cs))) e ∙ ap length (Leads.leading_dot_slash cs) in
    h 1 (omega arith) (omega arith) e)
    (λ (n : c ≢ 47). let z : length (lead_of (46 ∷ c ∷ cs)) ≡ 0 = ap length (Leads.leading_dot_other c cs n) in omega arith)
    (cases_eq c 47)

-- a `.` in front has a slash behind it, or nothing
no_dot : (b : ℕ) (bs : List ℕ) (low : ℕ) → b ≢ 47 → suc low ≡ length (lead_of (b ∷ bs)) → suc low < length (b ∷ bs) → ((k : ℕ) → suc low ≤ k → k < length (b ∷ bs) → get_or (b ∷ bs) k 0 ≢ 47) → ⊥
no_dot b bs low n d l h =
    ⊎_elim
    (λ (e : b ≡ 46). dot_case bs low (d ∙ ap (λ v. length (lead_of (v ∷ bs))) e) l (λ k m p q. h k m p (ap (λ v. get_or (v ∷ bs) k 0) e ∙ q)))
    (λ (m : b ≢ 46). let z : length (lead_of (b ∷ bs)) ≡ 0 = ap length (Leads.leading_other b bs n m) in omega arith)
    (cases_eq b 46)

-- without a slash behind what stands in front the last piece is all that is behind it
pub last_none : (t : List ℕ) (low : ℕ) → low ≡ length (lead_of t) → low < length t → ((k : ℕ) → low ≤ k → k < length t → get_or t k 0 ≢ 47) → IsLastPiece low t (take low t) (drop low t)
last_none [] low d l h = absurd (omega arith)
last_none (b ∷ bs) zero d l h =
    whole_piece (b ∷ bs) (nil_from_length (lead_of (b ∷ bs)) (sym d)) l (plain (b ∷ bs) (λ k m. h k (omega arith) m))
last_none (b ∷ bs) (suc low) d l h =
    ⊎_elim
    (λ (e : b ≡ 47).
    let one : suc low ≡ 1 = d ∙ ap (λ v. length (lead_of (v ∷ bs))) e ∙ ap length (Leads.leading_root bs) in
    let z : low ≡ 0 = omega arith in
    let P : ℕ → ℕ → Type 0 = λ v n. IsLastPiece (suc n) (v ∷ bs) (take (suc n) (v ∷ bs)) (drop (suc n) (v ∷ bs)) in
    subst (λ (v : ℕ). P v low) (sym e) (subst (λ (n : ℕ). P 47 n) (sym z) (rooted_piece bs (omega arith) (plain bs (λ k m. h (suc k) (omega arith) (omega arith))))))
    (λ (n : b ≢ 47). absurd (no_dot b bs low n d l h))
    (cases_eq b 47)
