-- A walk over the pieces of a text from either end: what is left of it gives the same.
use Rattle.std.proofs.Common.{◌≡◌, ◌≢◌, ℕ, zero, suc, ◌+◌, ◌<◌, ◌≤◌, Bool, true, false, eqb, List, [], ◌∷◌, ◌++◌, length, take, refl, sym, ap, ◌∙◌, arith, cond, ◌||◌, nat_lt, length-append, ⊎_elim, zero-add}
use Rattle.std.proofs.lemmas.Bool.{cases_eq}
use Rattle.std.proofs.lemmas.Bool.Decides.{nat_tests}
use Rattle.std.proofs.lemmas.List.{append-nil, take_all}
use Rattle.std.specs.List.{flat_map}
use Rattle.std.specs.Str.{bytes_eq}
use Rattle.std.proofs.lemmas.Slice.Eq.{bytes_eq-Decides}
use Rattle.just_path.specs.Comps.{Comp, comp_text, parent, normal, dot, dots, pieces, is_empty, comps_of_piece, names, lead_of, comps}
use Rattle.just_path.specs.Parts.{pieces_upto, pieces_from, text_of_pieces, text_upto, name_slice}
use Rattle.just_path.specs.Scan.{IsFirstPiece, IsLastPiece, HasFirst, HasLast}
use Rattle.just_path.proofs.Pieces.{text_of_pieces_of}
use Rattle.just_path.proofs.Leads

-- what is left of a text after pieces without a name were passed over in front
pub record KeepsFirst (text left : List ℕ) : Type 0 where
  pub gives : names text ≡ names left
  pub rests : (n k : ℕ) → name_slice n k text ≡ name_slice n k left
  pub no_longer : length left ≤ length text

-- the same where they were passed over at the end
pub record KeepsLast (text left : List ℕ) : Type 0 where
  pub gives : names text ≡ names left
  pub cuts : (k : ℕ) → text_upto k text ≡ text_upto k left
  pub rests : (n k : ℕ) → name_slice n k text ≡ name_slice n k left
  pub begins : lead_of left ≡ lead_of text
  pub kept : length (lead_of text) ≤ length left
  pub front : take (length (lead_of text)) left ≡ take (length (lead_of text)) text
  pub no_longer : length left ≤ length text

-- a text is left of itself
pub keeps_first : (t : List ℕ) → KeepsFirst t t
keeps_first t = record { gives = refl; rests = λ n k. refl; no_longer = omega arith }

-- the same from the end
pub keeps_last : (t : List ℕ) → length (lead_of t) ≤ length t → KeepsLast t t
keeps_last t h = record { gives = refl; cuts = λ k. refl; rests = λ n k. refl; begins = refl; kept = h; front = refl; no_longer = omega arith }

-- a piece without a name is passed over
from_skip : (k : ℕ) (p : List ℕ) (ps : List (List ℕ)) → comps_of_piece p ≡ [] → pieces_from k (p ∷ ps) ≡ pieces_from k ps
from_skip zero p ps h = rw h refl
from_skip (suc k) p ps h = rw h refl

-- a piece with a name is one of the first names
from_take : (k : ℕ) (p : List ℕ) (ps : List (List ℕ)) (c : Comp) → comps_of_piece p ≡ c ∷ [] → pieces_from (suc k) (p ∷ ps) ≡ pieces_from k ps
from_take k p ps c h = rw h refl

-- an empty piece alone has no names
from_nil : (k : ℕ) → pieces_from k ([] ∷ []) ≡ pieces_from k []
from_nil zero = refl
from_nil (suc k) = refl

-- what stands behind the first piece
names_first : (t p after : List ℕ) → IsFirstPiece t p after → names t ≡ comps_of_piece p ++ names after
unfolding names
names_first t p after f =
    ⊎_elim
    (λ (e : pieces t ≡ p ∷ pieces after). ap (flat_map comps_of_piece) e)
    (λ (e : (pieces t ≡ p ∷ []) × (after ≡ [])). ap (flat_map comps_of_piece) e.0 ∙ ap (λ a. comps_of_piece p ++ flat_map comps_of_piece (pieces a)) (sym e.1))
    f.split

-- the slices of a text by what stands behind its first piece
from_first : (m k : ℕ) (t p after : List ℕ) → IsFirstPiece t p after → (n : ℕ) → ((ps : List (List ℕ)) → pieces_from n (p ∷ ps) ≡ pieces_from m ps) → name_slice n k t ≡ name_slice m k after
unfolding name_slice
from_first m k t p after f n step =
    ⊎_elim
    (λ (e : pieces t ≡ p ∷ pieces after). ap (λ ps. text_of_pieces (pieces_upto k (pieces_from n ps))) e ∙ ap (λ ps. text_of_pieces (pieces_upto k ps)) (step (pieces after)))
    (λ (e : (pieces t ≡ p ∷ []) × (after ≡ [])).
    ap (λ ps. text_of_pieces (pieces_upto k (pieces_from n ps))) e.0 ∙ ap (λ ps. text_of_pieces (pieces_upto k ps)) (step []) ∙ ap (λ ps. text_of_pieces (pieces_upto k ps)) (sym (from_nil m))
    ∙ ap (λ a. text_of_pieces (pieces_upto k (pieces_from m (pieces a)))) (sym e.1))
    f.split

-- a piece without a name in front is passed over
pub first_skips : (t left p after : List ℕ) → KeepsFirst t left → IsFirstPiece left p after → comps_of_piece p ≡ [] → 0 < length left → KeepsFirst t after
first_skips t left p after k f h l = record {
  gives = k.gives ∙ names_first left p after f ∙ ap (λ ns. ns ++ names after) h;
  rests = λ n j. k.rests n j ∙ from_first n j left p after f n (λ ps. from_skip n p ps h);
  no_longer = omega (arith, k.no_longer, f.shorter l);
}

-- the first piece with a name gives the first component
pub first_takes : (t left p after : List ℕ) (c : Comp) → KeepsFirst t left → IsFirstPiece left p after → comps_of_piece p ≡ c ∷ [] → 0 < length left → HasFirst t c after
first_takes t left p after c k f h l = record {
  gives = k.gives ∙ names_first left p after f ∙ ap (λ ns. ns ++ names after) h;
  rests = λ n j. k.rests (suc n) j ∙ from_first n j left p after f (suc n) (λ ps. from_take n p ps c h);
  shorter = omega (arith, k.no_longer, f.shorter l);
}

-- an empty text has no names
names_nil : (t : List ℕ) → length t ≡ 0 → names t ≡ []
unfolding names
names_nil [] h = refl
names_nil (b ∷ bs) h = absurd (omega arith)

-- where nothing is left there was no name
pub first_ends : (t left : List ℕ) → KeepsFirst t left → length left ≡ 0 → names t ≡ []
first_ends t left k h = k.gives ∙ names_nil left h

-- texts that are cut alike
text_upto_same : (k : ℕ) (t u : List ℕ) → names t ≡ names u → pieces_upto k (pieces t) ≡ pieces_upto k (pieces u) → take (length (lead_of t)) t ≡ take (length (lead_of u)) u → text_upto k t ≡ text_upto k u
unfolding text_upto
text_upto_same k t u a b c = rw (a, b, c) refl

-- a text of one name more is cut alike by one more
text_upto_less : (k : ℕ) (t u : List ℕ) (c : Comp) → names t ≡ names u ++ c ∷ [] → pieces_upto (suc k) (pieces t) ≡ pieces_upto k (pieces u) → take (length (lead_of t)) t ≡ take (length (lead_of u)) u → text_upto (suc k) t ≡ text_upto k u
unfolding text_upto
text_upto_less k t u c a b d =
    let l : length (names t) ≡ length (names u) + 1 = ap length a ∙ length-append (names u) (c ∷ []) in
    let e : nat_lt (suc k) (length (names t)) ≡ nat_lt k (length (names u)) = rw l (grind (arith, nat_tests)) in
    let f : eqb (suc k) (length (names t)) ≡ eqb k (length (names u)) = rw l (grind (arith, nat_tests)) in
    rw (e, f, b, d) refl

-- texts of the same pieces have the same slices
rest_same : (n k j : ℕ) (t u : List ℕ) → pieces_upto j (pieces_from n (pieces t)) ≡ pieces_upto k (pieces_from n (pieces u)) → name_slice n j t ≡ name_slice n k u
unfolding name_slice
rest_same n k j t u h = ap text_of_pieces h

-- a last piece without a name is passed over
ends_skip : (low k : ℕ) (t before p : List ℕ) → IsLastPiece low t before p → comps_of_piece p ≡ [] → pieces_upto k (pieces t) ≡ pieces_upto k (pieces before)
ends_skip low k t before p f h = ap (λ n. pieces_upto n (pieces t)) (sym (zero-add k) ∙ ap (λ ns. length ns + k) (sym h)) ∙ f.ends k

-- a last piece with a name is one of the last names
ends_take : (low k : ℕ) (t before p : List ℕ) (c : Comp) → IsLastPiece low t before p → comps_of_piece p ≡ c ∷ [] → pieces_upto (suc k) (pieces t) ≡ pieces_upto k (pieces before)
ends_take low k t before p c f h =
    let e : suc k ≡ length (comps_of_piece p) + k = rw h (omega arith) in
    ap (λ n. pieces_upto n (pieces t)) e ∙ f.ends k

-- the same of the slices: a last piece without a name is passed over
rest_skip : (low n k : ℕ) (t before p : List ℕ) → IsLastPiece low t before p → comps_of_piece p ≡ [] → name_slice n k t ≡ name_slice n k before
rest_skip low n k t before p f h = rest_same n k k t before (ap (λ j. pieces_upto j (pieces_from n (pieces t))) (sym (zero-add k) ∙ ap (λ ns. length ns + k) (sym h)) ∙ f.ends_from n k)

-- and one with a name is one of the last names
rest_take : (low n k : ℕ) (t before p : List ℕ) (c : Comp) → IsLastPiece low t before p → comps_of_piece p ≡ c ∷ [] → name_slice n (suc k) t ≡ name_slice n k before
rest_take low n k t before p c f h =
    let e : suc k ≡ length (comps_of_piece p) + k = rw h (omega arith) in
    rest_same n k (suc k) t before (ap (λ j. pieces_upto j (pieces_from n (pieces t))) e ∙ f.ends_from n k)

-- what stands in front is kept
front_kept : (low : ℕ) (t before p : List ℕ) → IsLastPiece low t before p → low ≡ length (lead_of t) → take (length (lead_of t)) t ≡ take (length (lead_of before)) before
front_kept low t before p f d =
    ap (λ n. take n t) (sym d) ∙ sym f.front ∙ ap (λ n. take n before) (d ∙ ap length (sym f.begins))

-- a piece without a name at the end is passed over
pub last_skips : (low : ℕ) (t left before p : List ℕ) → KeepsLast t left → IsLastPiece low left before p → low ≡ length (lead_of t) → comps_of_piece p ≡ [] → KeepsLast t before
last_skips low t left before p k f d h =
    let d' : low ≡ length (lead_of left) = d ∙ ap length (sym k.begins) in
    let g : names left ≡ names before = f.gives ∙ ap (λ ns. names before ++ ns) h ∙ append-nil (names before) in
    record {
      gives = k.gives ∙ g;
      cuts = λ n. k.cuts n ∙ text_upto_same n left before g (ends_skip low n left before p f h) (front_kept low left before p f d');
      rests = λ n j. k.rests n j ∙ rest_skip low n j left before p f h;
      begins = f.begins ∙ k.begins;
      kept = omega (arith, f.kept);
      front = ap (λ n. take n before) (sym d) ∙ f.front ∙ ap (λ n. take n left) d ∙ k.front;
      no_longer = omega (arith, k.no_longer, f.shorter);
    }

-- a `.` in front gives no name
dot_front : (bs : List ℕ) → flat_map comps_of_piece (pieces (take (length (lead_of (46 ∷ bs))) (46 ∷ bs))) ≡ []
dot_front [] = ap (λ ls. flat_map comps_of_piece (pieces (take (length ls) (46 ∷ [])))) Leads.leading_dot
dot_front (c ∷ cs) =
    ⊎_elim
    (λ (e : c ≡ 47). ap (λ v. flat_map comps_of_piece (pieces (take (length (lead_of (46 ∷ v ∷ cs))) (46 ∷ v ∷ cs)))) e
    ∙ ap (λ ls. flat_map comps_of_piece (pieces (take (length ls) (46 ∷ 47 ∷ cs)))) (Leads.leading_dot_slash cs))
    (λ (n : c ≢ 47). ap (λ ls. flat_map comps_of_piece (pieces (take (length ls) (46 ∷ c ∷ cs)))) (Leads.leading_dot_other c cs n))
    (cases_eq c 47)

-- what stands in front gives no name
pub names_front : (t : List ℕ) → names (take (length (lead_of t)) t) ≡ []
unfolding names
names_front [] = ap (λ n. flat_map comps_of_piece (pieces (take n []))) (ap length Leads.leading_nil)
names_front (b ∷ bs) =
    ⊎_elim
    (λ (e : b ≡ 47). ap (λ v. flat_map comps_of_piece (pieces (take (length (lead_of (v ∷ bs))) (v ∷ bs)))) e
    ∙ ap (λ ls. flat_map comps_of_piece (pieces (take (length ls) (47 ∷ bs)))) (Leads.leading_root bs))
    (λ (n : b ≢ 47). ⊎_elim
    (λ (e : b ≡ 46). ap (λ v. flat_map comps_of_piece (pieces (take (length (lead_of (v ∷ bs))) (v ∷ bs)))) e ∙ dot_front bs)
    (λ (m : b ≢ 46). ap (λ ls. flat_map comps_of_piece (pieces (take (length ls) (b ∷ bs)))) (Leads.leading_other b bs n m))
    (cases_eq b 46))
    (cases_eq b 47)

-- where only what stands in front is left, there was no name
pub last_ends : (low : ℕ) (t left : List ℕ) → KeepsLast t left → low ≡ length (lead_of t) → length left ≤ low → (names t ≡ []) × (left ≡ text_upto 0 t)
unfolding text_upto
last_ends low t left k d h =
    let is : left ≡ take (length (lead_of t)) t = sym (take_all (length (lead_of t)) left (omega arith)) ∙ k.front in
    let none : names t ≡ [] = k.gives ∙ ap names is ∙ names_front t in
    let e : nat_lt 0 (length (names t)) ≡ false = rw none refl in
    let z : eqb 0 (length (names t)) ≡ true = rw none refl in
    (none, rw (e, z) is)

-- a text that begins with a name
first_is_name : (p : List ℕ) (ps : List (List ℕ)) (c : Comp) → comps_of_piece p ≡ c ∷ [] → pieces_from 0 (p ∷ ps) ≡ p ∷ ps
first_is_name p ps c h = rw h refl

-- nothing stands in front of a text that begins with a dot and whose first piece is a name
lead_dot_named : (bs : List ℕ) (b : ℕ) → b ≡ 46 → (p : List ℕ) (ps : List (List ℕ)) (c : Comp) → pieces (b ∷ bs) ≡ p ∷ ps → comps_of_piece p ≡ c ∷ [] → lead_of (b ∷ bs) ≡ []
lead_dot_named [] b q p ps c e h =
    let f : (46 ∷ []) ∷ [] ≡ p ∷ ps = ap (λ v. pieces (v ∷ [])) (sym q) ∙ e in
    let g : 46 ∷ [] ≡ p = cc in
    absurd (let no : [] ≡ c ∷ [] = ap comps_of_piece g ∙ h in cc)
lead_dot_named (d ∷ ds) b q p ps c e h =
    ⊎_elim
    (λ (r : d ≡ 47).
    let f : (46 ∷ []) ∷ pieces ds ≡ p ∷ ps = ap (λ v. pieces (46 ∷ v ∷ ds)) (sym r) ∙ ap (λ v. pieces (v ∷ d ∷ ds)) (sym q) ∙ e in
    let g : 46 ∷ [] ≡ p = cc in
    absurd (let no : [] ≡ c ∷ [] = ap comps_of_piece g ∙ h in cc))
    (λ (n : d ≢ 47). ap (λ v. lead_of (v ∷ d ∷ ds)) q ∙ Leads.leading_dot_other d ds n)
    (cases_eq d 47)

-- nothing stands in front of a text whose first piece is a name
pub lead_named : (t p : List ℕ) (ps : List (List ℕ)) (c : Comp) → pieces t ≡ p ∷ ps → comps_of_piece p ≡ c ∷ [] → lead_of t ≡ []
lead_named [] p ps c e h = Leads.leading_nil
lead_named (b ∷ bs) p ps c e h =
    ⊎_elim
    (λ (q : b ≡ 47).
    let f : [] ∷ pieces bs ≡ p ∷ ps = ap (λ v. pieces (v ∷ bs)) (sym q) ∙ e in
    let g : [] ≡ p = cc in
    absurd (let no : [] ≡ c ∷ [] = ap comps_of_piece g ∙ h in cc))
    (λ (n : b ≢ 47). ⊎_elim
    (λ (q : b ≡ 46). lead_dot_named bs b q p ps c e h)
    (λ (m : b ≢ 46). Leads.leading_other b bs n m)
    (cases_eq b 46))
    (cases_eq b 47)

-- the pieces of such a text
shown : (t p after : List ℕ) → IsFirstPiece t p after → (ps : List (List ℕ)) × (pieces t ≡ p ∷ ps)
shown t p after f =
    ⊎_elim
    (λ (e : pieces t ≡ p ∷ pieces after). (pieces after, e))
    (λ (e : (pieces t ≡ p ∷ []) × (after ≡ [])). ([], e.0))
    f.split

-- a number that is one more is above 0
more : (ns : List Comp) → nat_lt 0 (suc (length ns)) ≡ true
more ns = grind (arith, nat_tests)

-- a text that begins with a name has the slice of its names, and nothing in front
pub begins_named : (t p after : List ℕ) (c : Comp) → IsFirstPiece t p after → comps_of_piece p ≡ c ∷ [] → 0 < length t → (lead_of t ≡ []) × (text_upto 0 t ≡ name_slice 0 0 t)
unfolding text_upto name_slice
begins_named t p after c f h l =
    let (ps, e) = shown t p after f in
    let lead = lead_named t p ps c e h in
    let some : nat_lt 0 (length (names t)) ≡ true = ap (λ ns. nat_lt 0 (length ns)) (names_first t p after f ∙ ap (λ ns. ns ++ names after) h) ∙ more (names after) in
    (lead, rw (some, e, first_is_name p ps c h) refl)

-- so has what is left from the first name on
pub first_found : (t left p after : List ℕ) (c : Comp) → KeepsFirst t left → IsFirstPiece left p after → comps_of_piece p ≡ c ∷ [] → 0 < length left → (text_upto 0 left ≡ name_slice 0 0 t) × (comps left ≡ names t)
unfolding comps
first_found t left p after c k f h l =
    let b = begins_named left p after c f h l in
    (b.1 ∙ sym (k.rests 0 0), ap (λ ls. ls ++ names left) b.0 ∙ sym k.gives)

-- the same where no name is left
pub first_over : (t left : List ℕ) → KeepsFirst t left → length left ≡ 0 → (text_upto 0 [] ≡ name_slice 0 0 t) × (comps [] ≡ names t)
unfolding comps text_upto name_slice names
first_over t [] k l = (ap (λ n. take n []) (ap length Leads.leading_nil) ∙ sym (k.rests 0 0), ap (λ ls. ls ++ []) Leads.leading_nil ∙ sym k.gives)
first_over t (b ∷ bs) k l = absurd (omega arith)

-- a list with an item behind it has a length above 0
pushed_more : (ns : List Comp) (c : Comp) → nat_lt 0 (length (ns ++ c ∷ [])) ≡ true
pushed_more [] c = refl
pushed_more (n ∷ ns) c = more (ns ++ c ∷ [])

-- a text that ends in a name
pub last_found : (low : ℕ) (t left before p : List ℕ) (c : Comp) → KeepsLast t left → IsLastPiece low left before p → comps_of_piece p ≡ c ∷ [] → (left ≡ text_upto 0 t) × (comps left ≡ comps t)
unfolding comps text_upto
last_found low t left before p c k f h =
    let whole : pieces_upto 0 (pieces left) ≡ pieces left = f.whole (ap is_empty h) in
    let some : nat_lt 0 (length (names left)) ≡ true = ap (λ ns. nat_lt 0 (length ns)) (f.gives ∙ ap (λ ns. names before ++ ns) h) ∙ pushed_more (names before) c in
    let here : left ≡ text_upto 0 left = rw (some, whole) (sym (text_of_pieces_of left)) in
    (here ∙ sym (k.cuts 0), ap (λ ls. ls ++ names left) k.begins ∙ ap (λ ns. lead_of t ++ ns) (sym k.gives))

-- the text of a component is its piece, by whether it is `..`
parent_text : (p : List ℕ) (c : Comp) (v : Bool) → bytes_eq p dots ≡ v → cond v (parent ∷ []) (normal p ∷ []) ≡ c ∷ [] → comp_text c ≡ p
parent_text p c true e h = let q : parent ≡ c = cc in ap comp_text (sym q) ∙ sym ((bytes_eq-Decides p dots).0 e)
parent_text p c false e h = let q : normal p ≡ c = cc in ap comp_text (sym q)

-- the text of a piece's component is the piece
pub comp_text_of_piece : (p : List ℕ) (c : Comp) → comps_of_piece p ≡ c ∷ [] → comp_text c ≡ p
comp_text_of_piece p c =
    elim (is_empty p || bytes_eq p dot) as (λ v. cond v [] (cond (bytes_eq p dots) (parent ∷ []) (normal p ∷ [])) ≡ c ∷ [] → comp_text c ≡ p) [
      | true ↦ λ h. cc
      | false ↦ parent_text p c (bytes_eq p dots) refl
    ]

-- the last piece with a name gives the last component
pub last_takes : (low : ℕ) (t left before p : List ℕ) (c : Comp) → KeepsLast t left → IsLastPiece low left before p → low ≡ length (lead_of t) → comps_of_piece p ≡ c ∷ [] → HasLast t before c
last_takes low t left before p c k f d h =
    let d' : low ≡ length (lead_of left) = d ∙ ap length (sym k.begins) in
    let g : names left ≡ names before ++ c ∷ [] = f.gives ∙ ap (λ ns. names before ++ ns) h in
    record {
      gives = k.gives ∙ g;
      cuts = λ n. k.cuts (suc n) ∙ text_upto_less n left before c g (ends_take low n left before p c f h) (front_kept low left before p f d');
      rests = λ n j. k.rests n (suc j) ∙ rest_take low n j left before p c f h;
      begins = f.begins ∙ k.begins;
      stands = (f.stands.0, sym (last_found low t left before p c k f h).0 ∙ f.stands.1 ∙ ap (λ q. f.stands.0 ++ q) (sym (comp_text_of_piece p c h)));
      shorter = omega (arith, k.no_longer, f.shorter);
    }

-- the same where no name is left
pub last_over : (low : ℕ) (t left : List ℕ) → KeepsLast t left → low ≡ length (lead_of t) → length left ≤ low → (left ≡ text_upto 0 t) × (comps left ≡ comps t)
unfolding comps
last_over low t left k d h =
    ((last_ends low t left k d h).1, ap (λ ls. ls ++ names left) k.begins ∙ ap (λ ns. lead_of t ++ ns) (sym k.gives))
