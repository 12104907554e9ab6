-- The folder of a file that stands under a name in a folder isn't longer than that.
use Rattle.std.proofs.Common.{◌≡◌, ℕ, ◌+◌, ◌<◌, ◌≤◌, Bool, true, false, not, ◌||◌, eqb, cond, nat_lt, List, [], ◌∷◌, ◌++◌, length, take, refl, sym, ap, ◌∙◌, arith, append_assoc, length-append, length-take, ⊎_elim, ◌≢◌}
use Rattle.std.specs.List.{flat_map, list_any}
use Rattle.std.specs.Prelude.{◌==◌}
use Rattle.std.specs.Str.{bytes_eq}
use Rattle.std.proofs.lemmas.Bool.{cases_eq, ne_eqb}
use Rattle.std.proofs.lemmas.Grind.{flat_map-append}
use Rattle.just_path.specs.Path.{is_absolute, ends_open, pushed}
use Rattle.just_path.specs.Comps.{Comp, parent, normal, dot, dots, pieces, is_empty, comps_of_piece, names, lead_of}
use Rattle.just_path.specs.Parts.{text_of_pieces, pieces_upto, text_upto, parent_of}
use Rattle.just_path.proofs.Pieces.{pieces_slash, text_of_pieces_of}
use Rattle.just_path.proofs.Pushes.{by_last, ends_last}
use Rattle.just_path.proofs.Walks.{lead_named}
use Rattle.just_path.proofs.Leads
use Rattle.just_search.specs.Finding.{folder_of}

-- ---- tests that don't hold

or_left : (a b : Bool) → (a || b) ≡ false → a ≡ false
or_left true b h = cc
or_left false b h = refl

or_right : (a b : Bool) → (a || b) ≡ false → b ≡ false
or_right true b h = cc
or_right false b h = h

-- ---- a name

-- a text without a slash is one piece
pub piece_alone : (t : List ℕ) → list_any (λ b. b == 47) t ≡ false → pieces t ≡ t ∷ []
piece_alone [] h = refl
piece_alone (b ∷ bs) h =
    let here : eqb b 47 ≡ false = or_left (eqb b 47) (list_any (λ x. x == 47) bs) h in
    rw (here, piece_alone bs (or_right (eqb b 47) (list_any (λ x. x == 47) bs) h)) refl

-- and it is relative
pub relative : (t : List ℕ) → list_any (λ b. b == 47) t ≡ false → is_absolute t ≡ false
relative [] h = refl
relative (b ∷ bs) h = or_left (eqb b 47) (list_any (λ x. x == 47) bs) h

-- a piece that is neither empty nor `.` gives a component
pub one_component : (p : List ℕ) → is_empty p ≡ false → bytes_eq p dot ≡ false → (c : Comp) × (comps_of_piece p ≡ c ∷ [])
one_component p some other =
    let e : (is_empty p || bytes_eq p dot) ≡ false = rw (some, other) refl in
    elim (bytes_eq p dots) as (λ v. (c : Comp) × (cond (is_empty p || bytes_eq p dot) [] (cond v (parent ∷ []) (normal p ∷ [])) ≡ c ∷ [])) [
      | true ↦ (parent, rw e refl)
      | false ↦ (normal p, rw e refl)
    ]

-- ---- pieces with one behind them

-- up to the last but one they are a front of those before it
kept_front : (ps : List (List ℕ)) (q : List ℕ) (c : Comp) → comps_of_piece q ≡ c ∷ [] → (rest : List (List ℕ)) × (ps ≡ pieces_upto 1 (ps ++ q ∷ []) ++ rest)
kept_front [] q c h = ([], rw h refl)
kept_front (p ∷ ps) q c h =
    let (rest, e) = kept_front ps q c h in
    elim (nat_lt 1 (length (flat_map comps_of_piece (p ∷ (ps ++ q ∷ []))))) as (λ v. (r : List (List ℕ)) × (p ∷ ps ≡ cond v (p ∷ pieces_upto 1 (ps ++ q ∷ [])) [] ++ r)) [
      | true ↦ (rest, ap (λ r. p ∷ r) e)
      | false ↦ (p ∷ ps, refl)
    ]

-- the text of a front of pieces is a front of their text
text_front : (xs ys : List (List ℕ)) → (more : List ℕ) × (text_of_pieces (xs ++ ys) ≡ text_of_pieces xs ++ more)
text_front [] ys = (text_of_pieces ys, refl)
text_front (p ∷ ps) ys =
    (flat_map (λ q. 47 ∷ q) ys, ap (λ r. p ++ r) (flat_map-append (λ q. 47 ∷ q) ps ys) ∙ sym (append_assoc p (flat_map (λ q. 47 ∷ q) ps) (flat_map (λ q. 47 ∷ q) ys)))

-- so their text isn't longer
front_length : (ps : List (List ℕ)) (q : List ℕ) (c : Comp) → comps_of_piece q ≡ c ∷ [] → length (text_of_pieces (pieces_upto 1 (ps ++ q ∷ []))) ≤ length (text_of_pieces ps)
front_length ps q c h =
    let (rest, e) = kept_front ps q c h in
    let (more, f) = text_front (pieces_upto 1 (ps ++ q ∷ [])) rest in
    let g : text_of_pieces ps ≡ text_of_pieces (pieces_upto 1 (ps ++ q ∷ [])) ++ more = ap text_of_pieces e ∙ f in
    let l : length (text_of_pieces ps) ≡ length (text_of_pieces (pieces_upto 1 (ps ++ q ∷ []))) + length more = ap length g ∙ length-append (text_of_pieces (pieces_upto 1 (ps ++ q ∷ []))) more in
    omega arith

-- they give a component
filled_behind : (xs ys : List Comp) → is_empty ys ≡ false → is_empty (xs ++ ys) ≡ false
filled_behind [] ys h = h
filled_behind (x ∷ xs) ys h = refl

filled : (ps : List (List ℕ)) (q : List ℕ) (c : Comp) → comps_of_piece q ≡ c ∷ [] → is_empty (flat_map comps_of_piece (ps ++ q ∷ [])) ≡ false
filled [] q c h = rw h refl
filled (p ∷ ps) q c h = filled_behind (comps_of_piece p) (flat_map comps_of_piece (ps ++ q ∷ [])) (filled ps q c h)

names_filled : (t : List ℕ) (ps : List (List ℕ)) (q : List ℕ) (c : Comp) → pieces t ≡ ps ++ q ∷ [] → comps_of_piece q ≡ c ∷ [] → is_empty (names t) ≡ false
unfolding names
names_filled t ps q c is h = ap (λ xs. is_empty (flat_map comps_of_piece xs)) is ∙ filled ps q c h

-- ---- the folder of a file

folder_is : (t : List ℕ) → is_empty (names t) ≡ false → folder_of t ≡ text_upto 1 t
unfolding parent_of
folder_is t some = rw some refl

upto_length : (t : List ℕ) (ps : List (List ℕ)) (q : List ℕ) (c : Comp) (n : ℕ) → pieces t ≡ ps ++ q ∷ [] → comps_of_piece q ≡ c ∷ [] → length (text_of_pieces ps) ≤ n → length (lead_of t) ≤ n → length (text_upto 1 t) ≤ n
unfolding text_upto
upto_length t ps q c n is h low lead =
    let a : length (text_of_pieces (pieces_upto 1 (pieces t))) ≤ length (text_of_pieces ps) = rw is (front_length ps q c h) in
    elim (nat_lt 1 (length (names t))) as (λ v. length (cond v (text_of_pieces (pieces_upto 1 (pieces t))) (cond (eqb 1 (length (names t))) (take (length (lead_of t)) t) [])) ≤ n) [
      | true ↦ omega arith
      | false ↦ elim (eqb 1 (length (names t))) as (λ v. length (cond v (take (length (lead_of t)) t) []) ≤ n) [ true ↦ omega (arith, length-take (length (lead_of t)) t) | false ↦ omega arith ]
    ]

folder_length : (t : List ℕ) (ps : List (List ℕ)) (q : List ℕ) (c : Comp) (n : ℕ) → pieces t ≡ ps ++ q ∷ [] → comps_of_piece q ≡ c ∷ [] → length (text_of_pieces ps) ≤ n → length (lead_of t) ≤ n → length (folder_of t) ≤ n
folder_length t ps q c n is h low lead = rw (folder_is t (names_filled t ps q c is h)) (upto_length t ps q c n is h low lead)

-- behind a slash
behind_slash : (t b name : List ℕ) (c : Comp) (n : ℕ) → t ≡ b ++ 47 ∷ name → pieces name ≡ name ∷ [] → comps_of_piece name ≡ c ∷ [] → length b ≤ n → 0 < n → length (folder_of t) ≤ n
behind_slash t b name c n is alone h low some =
    folder_length t (pieces b) name c n (ap pieces is ∙ pieces_slash b name ∙ ap (λ ps. pieces b ++ ps) alone) h (rw (text_of_pieces_of b) low) (omega (arith, Leads.one_at_most t))

-- alone
by_itself : (name : List ℕ) (c : Comp) → pieces name ≡ name ∷ [] → comps_of_piece name ≡ c ∷ [] → length (folder_of name) ≤ 0
by_itself name c alone h =
    let lead : lead_of name ≡ [] = lead_named name name [] c alone h in
    folder_length name [] name c 0 alone h (omega arith) (rw lead (omega arith))

-- under a folder whose path ends in a slash
under_slash : (x : ℕ) (xs name : List ℕ) (c : Comp) → is_absolute name ≡ false → pieces name ≡ name ∷ [] → comps_of_piece name ≡ c ∷ [] → ends_open (x ∷ xs) ≡ false → length (folder_of (pushed (x ∷ xs) name)) ≤ length (x ∷ xs)
under_slash x xs name c under alone h closed =
    let (a, y, e) = by_last xs x in
    ⊎_elim
    (λ (q : y ≡ 47).
    let t : pushed (x ∷ xs) name ≡ a ++ 47 ∷ name = rw (under, closed) (ap (λ b. b ++ name) e ∙ append_assoc a (y ∷ []) name ∙ ap (λ z. a ++ z ∷ name) q) in
    let l : length (x ∷ xs) ≡ length a + 1 = ap length e ∙ length-append a (y ∷ []) in
    behind_slash (pushed (x ∷ xs) name) a name c (length (x ∷ xs)) t alone h (omega arith) (omega arith))
    (λ (other : y ≢ 47).
    let ends : ends_open (x ∷ xs) ≡ true = ap ends_open e ∙ ends_last a y ∙ ap not (ne_eqb y 47 other) in
    absurd (let no : false ≡ true = sym closed ∙ ends in cc))
    (cases_eq y 47)

under_by : (x : List ℕ) (v : Bool) (name : List ℕ) (c : Comp) → ends_open x ≡ v → is_absolute name ≡ false → pieces name ≡ name ∷ [] → comps_of_piece name ≡ c ∷ [] → length (folder_of (pushed x name)) ≤ length x
under_by [] v name c ends under alone h =
    let t : pushed [] name ≡ name = rw under refl in
    rw t (by_itself name c alone h)
under_by (x ∷ xs) true name c ends under alone h =
    behind_slash (pushed (x ∷ xs) name) (x ∷ xs) name c (length (x ∷ xs)) (rw (under, ends) refl) alone h (omega arith) (omega arith)
under_by (x ∷ xs) false name c ends under alone h = under_slash x xs name c under alone h ends

-- under any folder
pub folder_under : (x name : List ℕ) → is_empty name ≡ false → bytes_eq name dot ≡ false → list_any (λ b. b == 47) name ≡ false → length (folder_of (pushed x name)) ≤ length x
folder_under x name some other plain =
    let (c, h) = one_component name some other in
    under_by x (ends_open x) name c refl (relative name plain) (piece_alone name plain) h
