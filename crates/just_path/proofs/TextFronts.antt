-- Cut texts are fronts of the text, and a stem is a front of its name.
use Rattle.std.proofs.Common.{◌≡◌, ℕ, ◌+◌, ◌-◌, ◌≤◌, Bool, true, false, eqb, cond, nat_lt, Option, Some, None, List, [], ◌∷◌, ◌++◌, length, take, drop, refl, sym, ap, ◌∙◌, subst, arith, append_assoc, length-append}
use Rattle.std.specs.List.{flat_map}
use Rattle.std.specs.Prelude.{unwrap_or, option_map}
use Rattle.std.proofs.lemmas.List.{take-append-drop, take_at, append-nil}
use Rattle.std.proofs.lemmas.Grind.{flat_map-append}
use Rattle.std.proofs.lemmas.Str.{IsUtf8-take, IsCharBoundary-at_seam}
use Rattle.std.specs.Str.{IsUtf8}
use Rattle.std.proofs.lemmas.Bool.Decides.{nat_tests}
use Rattle.just_path.specs.Comps.{Comp, prefix, root, current, parent, normal, comp_text, pieces, comps_of_piece, names, lead_of, is_empty}
use Rattle.just_path.specs.Parts.{text_of_pieces, pieces_upto, text_upto, parent_of, parent_of_lead}
use Rattle.just_path.specs.Names.{parts_at_last_dot, put_before, unless_first, name_parts, stem_of, name_of}
use Rattle.just_path.proofs.Pieces.{text_of_pieces_of}

-- pieces up to a name are a front of the pieces
pieces_upto_parts : (k : ℕ) (ps : List (List ℕ)) → (qs : List (List ℕ)) × (ps ≡ pieces_upto k ps ++ qs)
pieces_upto_parts k [] = ([], refl)
pieces_upto_parts k (p ∷ ps) =
    let (qs, e) = pieces_upto_parts k ps in
    elim (nat_lt k (length (flat_map comps_of_piece (p ∷ ps)))) as (λ v. (rs : List (List ℕ)) × (p ∷ ps ≡ cond v (p ∷ pieces_upto k ps) [] ++ rs)) [
      | true ↦ (qs, ap (λ r. p ∷ r) e)
      | false ↦ (p ∷ ps, refl)
    ]

-- the text of a front of the pieces is a front of the text
text_of_pieces_parts : (xs ys : List (List ℕ)) → (more : List ℕ) × (text_of_pieces (xs ++ ys) ≡ text_of_pieces xs ++ more)
text_of_pieces_parts [] ys = (text_of_pieces ys, refl)
text_of_pieces_parts (p ∷ ps) ys =
    (flat_map (λ q. 47 ∷ q) ys, ap (λ r. p ++ r) (flat_map-append (λ q. 47 ∷ q) ps ys) ∙ sym (append_assoc p (flat_map (λ q. 47 ∷ q) ps) (flat_map (λ q. 47 ∷ q) ys)))

-- a text up to a component is a front of the text
pub text_upto_parts : (k : ℕ) (t : List ℕ) → (more : List ℕ) × (t ≡ text_upto k t ++ more)
unfolding text_upto
text_upto_parts k t =
    let (qs, e) = pieces_upto_parts k (pieces t) in
    let (more, f) = text_of_pieces_parts (pieces_upto k (pieces t)) qs in
    elim (nat_lt k (length (names t))) as (λ v. (m : List ℕ) × (t ≡ cond v (text_of_pieces (pieces_upto k (pieces t))) (cond (eqb k (length (names t))) (take (length (lead_of t)) t) []) ++ m)) [
      | true ↦ (more, sym (text_of_pieces_of t) ∙ ap text_of_pieces e ∙ f)
      | false ↦ elim (eqb k (length (names t))) as (λ v. (m : List ℕ) × (t ≡ cond v (take (length (lead_of t)) t) [] ++ m)) [
        | true ↦ (drop (length (lead_of t)) t, sym (take-append-drop (length (lead_of t)) t))
        | false ↦ (t, refl)
      ]
    ]

-- so it is its first bytes
pub text_upto_front : (k : ℕ) (t : List ℕ) → take (length (text_upto k t)) t ≡ text_upto k t
text_upto_front k t =
    let (more, e) = text_upto_parts k t in
    ap (λ u. take (length (text_upto k t)) u) e ∙ take_at (text_upto k t) more (length (text_upto k t)) refl

-- the parent is a front of the path
front_of_leading : (t d : List ℕ) (ls : List Comp) → parent_of_lead ls ≡ Some d → take (length d) t ≡ d
front_of_leading t d [] h = cc
front_of_leading t d (prefix p ∷ ls) h = cc
front_of_leading t d (root ∷ ls) h = cc
front_of_leading t d (current ∷ ls) h = let e : [] ≡ d = cc in subst (λ (x : List ℕ). take (length x) t ≡ x) e refl
front_of_leading t d (parent ∷ ls) h = cc
front_of_leading t d (normal p ∷ ls) h = cc

-- a parent is the first bytes of its path
pub parent_front : (t d : List ℕ) → parent_of t ≡ Some d → take (length d) t ≡ d
unfolding parent_of
parent_front t d =
    elim (is_empty (names t)) as (λ v. cond v (parent_of_lead (lead_of t)) (Some (text_upto 1 t)) ≡ Some d → take (length d) t ≡ d) [
      | true ↦ λ h. front_of_leading t d (lead_of t) h
      | false ↦ λ h. let e : text_upto 1 t ≡ d = cc in subst (λ (x : List ℕ). take (length x) t ≡ x) e (text_upto_front 1 t)
    ]

-- what stands before the last dot of a name, that dot, and what stands behind it are the name
dot_here : (b : ℕ) (bs : List ℕ) (s : List ℕ × List ℕ) (v : Bool) → eqb b 46 ≡ v → cond v (Some ([], bs)) None ≡ Some s → b ∷ bs ≡ s.0 ++ 46 ∷ s.1
dot_here b bs s true e h =
    let p : ([], bs) ≡ s = cc in
    let q : b ≡ 46 = grind (arith, nat_tests) in
    subst (λ (r : List ℕ × List ℕ). b ∷ bs ≡ r.0 ++ 46 ∷ r.1) p (ap (λ x. x ∷ bs) q)
dot_here b bs s false e h = cc

-- one byte more in front of a last dot
dot_more : (b : ℕ) (bs : List ℕ) (o : Option (List ℕ × List ℕ)) → ((r : List ℕ × List ℕ) → o ≡ Some r → bs ≡ r.0 ++ 46 ∷ r.1) → (s : List ℕ × List ℕ) → put_before b bs o ≡ Some s → b ∷ bs ≡ s.0 ++ 46 ∷ s.1
dot_more b bs None f s h = dot_here b bs s (eqb b 46) refl h
dot_more b bs (Some r) f s h =
    let p : (b ∷ r.0, r.1) ≡ s = cc in
    subst (λ (q : List ℕ × List ℕ). b ∷ bs ≡ q.0 ++ 46 ∷ q.1) p (ap (λ x. b ∷ x) (f r refl))

-- a text is what stands before its last dot, the dot, and what stands behind it
dot_parts : (n : List ℕ) (o : Option (List ℕ × List ℕ)) → parts_at_last_dot n ≡ o → (s : List ℕ × List ℕ) → o ≡ Some s → n ≡ s.0 ++ 46 ∷ s.1
dot_parts [] o h s e = cc
dot_parts (b ∷ bs) o h s e = dot_more b bs (parts_at_last_dot bs) (λ r q. dot_parts bs (parts_at_last_dot bs) refl r q) s (h ∙ e)

-- the stem of a name, by whether it has a dot
stem_case : (n : List ℕ) (o : Option (List ℕ × List ℕ)) → ((s : List ℕ × List ℕ) → o ≡ Some s → n ≡ s.0 ++ 46 ∷ s.1) → (m : List ℕ) × (n ≡ unwrap_or (option_map (λ s. s.0) (unless_first o)) n ++ m)
stem_case n None f = ([], sym (append-nil n))
stem_case n (Some s) f =
    elim (is_empty s.0) as (λ v. (m : List ℕ) × (n ≡ unwrap_or (option_map (λ r. r.0) (cond v None (Some s))) n ++ m)) [
      | true ↦ ([], sym (append-nil n))
      | false ↦ (46 ∷ s.1, f s refl)
    ]

-- a stem is a front of its name
pub stem_parts : (n : List ℕ) → (m : List ℕ) × (n ≡ stem_of n ++ m)
unfolding name_parts
stem_parts n = stem_case n (parts_at_last_dot n) (λ s e. dot_parts n (parts_at_last_dot n) refl s e)

-- the text of a name is the name
pub name_text : (c : Comp) (n : List ℕ) → Some n ≡ name_of c → comp_text c ≡ n
name_text (prefix t) n h = cc
name_text root n h = cc
name_text current n h = cc
name_text parent n h = cc
name_text (normal t) n h = cc

-- a path, cut where the stem of its last name ends
pub stem_cut : (t e a n s : List ℕ) → e ≡ text_upto 0 t → e ≡ a ++ n → s ≡ stem_of n → (length s ≤ length n) × (length n ≤ length e) × (take (length e - (length n - length s)) t ≡ a ++ s)
stem_cut t e a n s h k r =
    let (more, f) = text_upto_parts 0 t in
    let (m, g) = stem_parts n in
    let w : n ≡ s ++ m = g ∙ ap (λ x. x ++ m) (sym r) in
    let l : length n ≡ length s + length m = ap length w ∙ length-append s m in
    let l2 : length e ≡ length a + length n = ap length k ∙ length-append a n in
    let whole : t ≡ (a ++ s) ++ (m ++ more) =
    f ∙ ap (λ x. x ++ more) (sym h ∙ k ∙ ap (λ x. a ++ x) w ∙ sym (append_assoc a s m)) ∙ append_assoc (a ++ s) m more in
    let at : length (a ++ s) ≡ length e - (length n - length s) = length-append a s ∙ omega arith in
    (omega arith, omega arith, ap (λ u. take (length e - (length n - length s)) u) whole ∙ take_at (a ++ s) (m ++ more) (length e - (length n - length s)) at)

-- what stands before a text at the end of a text is text too
pub text_before : (e a n : List ℕ) → e ≡ a ++ n → IsUtf8 e → IsUtf8 n → IsUtf8 a
text_before e a n k u v =
    subst (λ (x : List ℕ). IsUtf8 x) (ap (λ x. take (length a) x) k ∙ take_at a n (length a) refl) (IsUtf8-take e (length a) u (IsCharBoundary-at_seam e a n k v))
