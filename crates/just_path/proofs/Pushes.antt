-- The components of a path with another pushed.
use Rattle.std.proofs.Common.{◌≡◌, ◌≢◌, ℕ, suc, ◌-◌, ◌<◌, Bool, true, false, not, ◌&&◌, ◌||◌, List, [], ◌∷◌, ◌++◌, Some, length, refl, sym, ap, ◌∙◌, subst, cond, arith, nat_lt, eqb, ⊎_elim, append_assoc}
use Rattle.std.specs.Prelude.{slice_get}
use Rattle.std.specs.List.{flat_map}
use Rattle.std.specs.Str.{bytes_eq}
use Rattle.std.proofs.lemmas.List.{append-nil}
use Rattle.std.proofs.lemmas.Grind.{flat_map-append}
use Rattle.std.proofs.lemmas.Bool.{ne_eqb, cases_eq}
use Rattle.just_path.specs.Path.{is_absolute, is_other, ends_open, pushed}
use Rattle.just_path.specs.Comps.{Comp, prefix, root, current, parent, normal, dot, dots, with_first_byte, pieces, is_dot_first, is_empty, comps_of_piece, names, lead_of, comps, join_comps}
use Rattle.just_path.specs.Order.{rank}
use Rattle.just_path.proofs.Pieces.{pieces_slash}
use Rattle.just_path.proofs.Truths.{and_left, and_right}
use Rattle.just_path.proofs.Leads
use Rattle.just_path.proofs.Scans.{lead_same}

-- names alone: no root and no `.`
abbrev pub all_named : List Comp → Bool
all_named [] = true
all_named (c ∷ cs) = nat_lt 2 (rank c) && all_named cs

-- two lists are names alone where each is
pub all_append : (xs ys : List Comp) → all_named (xs ++ ys) ≡ (all_named xs && all_named ys)
all_append [] ys = refl
all_append (c ∷ cs) ys =
    elim (nat_lt 2 (rank c)) as (λ v. (v && all_named (cs ++ ys)) ≡ ((v && all_named cs) && all_named ys)) [ true ↦ all_append cs ys | false ↦ refl ]

-- a piece gives names alone
pub all_of_piece : (p : List ℕ) → all_named (comps_of_piece p) ≡ true
all_of_piece p =
    elim (is_empty p || bytes_eq p dot) as (λ v. all_named (cond v [] (cond (bytes_eq p dots) (parent ∷ []) (normal p ∷ []))) ≡ true) [
      | true ↦ refl
      | false ↦ elim (bytes_eq p dots) as (λ v. all_named (cond v (parent ∷ []) (normal p ∷ [])) ≡ true) [ true ↦ refl | false ↦ refl ]
    ]

-- so do pieces
all_of_pieces : (ps : List (List ℕ)) → all_named (flat_map comps_of_piece ps) ≡ true
all_of_pieces [] = refl
all_of_pieces (p ∷ ps) = all_append (comps_of_piece p) (flat_map comps_of_piece ps) ∙ rw (all_of_piece p, all_of_pieces ps) refl

-- so does a text
pub all_of_names : (t : List ℕ) → all_named (names t) ≡ true
unfolding names
all_of_names t = all_of_pieces (pieces t)

-- behind the first component of a path there are names alone
tail_of_led : (ls ns : List Comp) (x : Comp) (cs : List Comp) → length ls < 2 → all_named ns ≡ true → ls ++ ns ≡ x ∷ cs → all_named cs ≡ true
tail_of_led [] ns x cs l a h = and_right (nat_lt 2 (rank x)) (all_named cs) (ap all_named (sym h) ∙ a)
tail_of_led (y ∷ []) ns x cs l a h = let e : ns ≡ cs = cc in ap all_named (sym e) ∙ a
tail_of_led (y ∷ z ∷ ls) ns x cs l a h = absurd (omega arith)

-- the same of a path's components
pub tail_named : (t : List ℕ) (x : Comp) (cs : List Comp) → comps t ≡ x ∷ cs → all_named cs ≡ true
unfolding comps
tail_named t x cs h = tail_of_led (lead_of t) (names t) x cs (omega (arith, Leads.one_at_most t)) (all_of_names t) h

-- where what stands in front is a name, nothing does
no_lead : (t : List ℕ) → all_named (lead_of t) ≡ true → lead_of t ≡ []
unfolding lead_of
no_lead t =
    elim (is_absolute t) as (λ v. all_named (cond v (root ∷ []) (cond (is_dot_first (pieces t)) (current ∷ []) [])) ≡ true → cond v (root ∷ []) (cond (is_dot_first (pieces t)) (current ∷ []) []) ≡ []) [
      | true ↦ λ h. cc
      | false ↦ elim (is_dot_first (pieces t)) as (λ v. all_named (cond v (current ∷ []) []) ≡ true → cond v (current ∷ []) [] ≡ []) [ true ↦ λ h. cc | false ↦ λ h. refl ]
    ]

-- a path that nothing stands in front of is relative
pub relative_unled : (t : List ℕ) → lead_of t ≡ [] → is_absolute t ≡ false
unfolding lead_of
relative_unled t =
    elim (is_absolute t) as (λ v. cond v (root ∷ []) (cond (is_dot_first (pieces t)) (current ∷ []) []) ≡ [] → v ≡ false) [ true ↦ λ h. cc | false ↦ λ h. refl ]

-- a text that isn't empty gives a component
filled_piece : (x : ℕ) (p : List ℕ) (ns : List Comp) → is_empty (cond (bytes_eq (x ∷ p) dot) (current ∷ []) [] ++ (comps_of_piece (x ∷ p) ++ ns)) ≡ false
filled_piece x p ns =
    elim (bytes_eq (x ∷ p) dot) as (λ v. is_empty (cond v (current ∷ []) [] ++ (cond v [] (cond (bytes_eq (x ∷ p) dots) (parent ∷ []) (normal (x ∷ p) ∷ [])) ++ ns)) ≡ false) [
      | true ↦ refl
      | false ↦ elim (bytes_eq (x ∷ p) dots) as (λ v. is_empty (cond v (parent ∷ []) (normal (x ∷ p) ∷ []) ++ ns) ≡ false) [ true ↦ refl | false ↦ refl ]
    ]

-- the components of pieces with a byte in front are not empty
filled_with_first_byte : (x : ℕ) (ps : List (List ℕ)) → is_empty (cond (is_dot_first (with_first_byte x ps)) (current ∷ []) [] ++ flat_map comps_of_piece (with_first_byte x ps)) ≡ false
filled_with_first_byte x [] = filled_piece x [] []
filled_with_first_byte x (p ∷ ps) = filled_piece x p (flat_map comps_of_piece ps)

-- nor are those of a text that is not empty
pub comps_filled : (x : ℕ) (t : List ℕ) → is_empty (comps (x ∷ t)) ≡ false
unfolding comps lead_of names
comps_filled x t =
    elim (eqb x 47) as (λ v. is_empty (cond v (root ∷ []) (cond (is_dot_first (cond v ([] ∷ pieces t) (with_first_byte x (pieces t)))) (current ∷ []) []) ++ flat_map comps_of_piece (cond v ([] ∷ pieces t) (with_first_byte x (pieces t)))) ≡ false) [
      | true ↦ refl
      | false ↦ filled_with_first_byte x (pieces t)
    ]

-- the push rule by the end of the base
pub push_absolute : (b p : List ℕ) → is_absolute p ≡ true → pushed b p ≡ p
push_absolute b p h = rw h refl

-- on the empty path anything is pushed as it is
pub push_empty : (p : List ℕ) → pushed [] p ≡ p
push_empty p = elim (is_absolute p) as (λ v. cond v p ([] ++ p) ≡ p) [ true ↦ refl | false ↦ refl ]

-- the last byte of a text with a byte behind it
get_last : (b : List ℕ) (x : ℕ) → slice_get (b ++ x ∷ []) (length (b ++ x ∷ []) - 1) ≡ Some x
get_last [] x = refl
get_last (y ∷ []) x = refl
get_last (y ∷ z ∷ b) x =
    let e : length (y ∷ z ∷ (b ++ x ∷ [])) - 1 ≡ suc (length (z ∷ (b ++ x ∷ [])) - 1) = omega arith in
    ap (λ n. slice_get (y ∷ z ∷ (b ++ x ∷ [])) n) e ∙ get_last (z ∷ b) x

-- such a text ends open where that byte is no slash
pub ends_last : (b : List ℕ) (x : ℕ) → ends_open (b ++ x ∷ []) ≡ not (eqb x 47)
ends_last b x = ap is_other (get_last b x)

-- a list that isn't empty, by its last item
pub by_last : {A : Type 0} (xs : List A) (x : A) → (ys : List A) × (y : A) × (x ∷ xs ≡ ys ++ y ∷ [])
by_last [] x = ([], x, refl)
by_last (z ∷ xs) x = let (ys, y, e) = by_last xs z in (x ∷ ys, y, ap (λ r. x ∷ r) e)

-- the names of two texts with a slash between
pub names_slash : (a b : List ℕ) → names (a ++ 47 ∷ b) ≡ names a ++ names b
unfolding names
names_slash a b = ap (flat_map comps_of_piece) (pieces_slash a b) ∙ flat_map-append comps_of_piece (pieces a) (pieces b)

-- what stands in front of a text with a slash in it depends on what stands before that alone
pub lead_slash : (a r s : List ℕ) → lead_of (a ++ 47 ∷ r) ≡ lead_of (a ++ 47 ∷ s)
lead_slash [] r s = Leads.leading_root r ∙ sym (Leads.leading_root s)
lead_slash (x ∷ a) r s = sym (lead_same (x ∷ a) r (omega arith)) ∙ lead_same (x ∷ a) s (omega arith)

-- a slash at the end adds no name
no_names_slash : (a : List ℕ) → names (a ++ 47 ∷ []) ≡ names a
unfolding names
no_names_slash a = names_slash a [] ∙ append-nil (names a)

-- a text with a byte behind it is not empty
longer : (a : List ℕ) (y : ℕ) → 0 < length (a ++ y ∷ [])
longer [] y = omega arith
longer (x ∷ a) y = omega arith

-- the components of a path that ends in a slash with a relative one pushed
closed : (a p : List ℕ) → is_absolute p ≡ false → comps (pushed (a ++ 47 ∷ []) p) ≡ comps (a ++ 47 ∷ []) ++ names p
unfolding comps
closed a p h =
    let e : ends_open (a ++ 47 ∷ []) ≡ false = ends_last a 47 in
    let t : pushed (a ++ 47 ∷ []) p ≡ a ++ 47 ∷ p = rw (h, e) (append_assoc a (47 ∷ []) p) in
    let l : lead_of (a ++ 47 ∷ p) ≡ lead_of (a ++ 47 ∷ []) = lead_slash a p [] in
    let n : names (a ++ 47 ∷ p) ≡ names (a ++ 47 ∷ []) ++ names p = names_slash a p ∙ ap (λ ns. ns ++ names p) (sym (no_names_slash a)) in
    ap (λ u. lead_of u ++ names u) t ∙ rw (l, n) (sym (append_assoc (lead_of (a ++ 47 ∷ [])) (names (a ++ 47 ∷ [])) (names p)))

-- the same of a path that does not end in one
opened : (a : List ℕ) (y : ℕ) (p : List ℕ) → is_absolute p ≡ false → ends_open (a ++ y ∷ []) ≡ true → comps (pushed (a ++ y ∷ []) p) ≡ comps (a ++ y ∷ []) ++ names p
unfolding comps
opened a y p h e =
    let b : List ℕ = a ++ y ∷ [] in
    let t : pushed b p ≡ b ++ 47 ∷ p = rw (h, e) refl in
    let l : lead_of (b ++ 47 ∷ p) ≡ lead_of b = sym (lead_same b p (longer a y)) in
    let n : names (b ++ 47 ∷ p) ≡ names b ++ names p = names_slash b p in
    ap (λ u. lead_of u ++ names u) t ∙ rw (l, n) (sym (append_assoc (lead_of b) (names b) (names p)))

-- a relative path adds its names
pub comps_pushed_relative : (x : ℕ) (b p : List ℕ) → is_absolute p ≡ false → comps (pushed (x ∷ b) p) ≡ comps (x ∷ b) ++ names p
comps_pushed_relative x b p h =
    let (a, y, e) = by_last b x in
    subst (λ (t : List ℕ). comps (pushed t p) ≡ comps t ++ names p) (sym e)
    (⊎_elim
    (λ (q : y ≡ 47). subst (λ (v : ℕ). comps (pushed (a ++ v ∷ []) p) ≡ comps (a ++ v ∷ []) ++ names p) (sym q) (closed a p h))
    (λ (n : y ≢ 47). opened a y p h (ends_last a y ∙ ap not (ne_eqb y 47 n)))
    (cases_eq y 47))

-- what remains behind a base, joined to it again
unled_behind : (t : List ℕ) (x : Comp) (cs : List Comp) (r : List ℕ) → comps t ≡ x ∷ (cs ++ comps r) → lead_of r ≡ []
unfolding comps
unled_behind t x cs r h =
    let a : all_named (cs ++ (lead_of r ++ names r)) ≡ true = tail_named t x (cs ++ comps r) h in
    no_lead r (and_left (all_named (lead_of r)) (all_named (names r)) (sym (all_append (lead_of r) (names r))
    ∙ and_right (all_named cs) (all_named (lead_of r ++ names r)) (sym (all_append cs (lead_of r ++ names r)) ∙ a)))

-- the names of a path that nothing stands in front of are its components
unled_comps : (r : List ℕ) → lead_of r ≡ [] → names r ≡ comps r
unfolding comps
unled_comps r h = sym (ap (λ ls. ls ++ names r) h)

-- the empty path has no component
comps_none : comps [] ≡ []
unfolding comps lead_of names
comps_none = refl

-- the same behind a list of components that is not empty
behind_some : (t : List ℕ) (cs : List Comp) (r : List ℕ) → is_empty cs ≡ false → comps t ≡ cs ++ comps r → lead_of r ≡ []
behind_some t [] r f h = cc
behind_some t (x ∷ cs) r f h = unled_behind t x cs r h

-- what remains behind a base, pushed on it again, has the components of the whole
pub joined_again : (t b r : List ℕ) → comps t ≡ comps b ++ comps r → comps (pushed b r) ≡ comps t
joined_again t [] r h = ap comps (push_empty r) ∙ sym (h ∙ ap (λ cs. cs ++ comps r) comps_none)
joined_again t (x ∷ b) r h =
    let l = behind_some t (comps (x ∷ b)) r (comps_filled x b) h in
    comps_pushed_relative x b r (relative_unled r l) ∙ ap (λ cs. comps (x ∷ b) ++ cs) (unled_comps r l) ∙ sym h

-- what is pushed on a component is put behind it, where it is names alone
joined_names : (c : Comp) (cs ns : List Comp) → all_named ns ≡ true → join_comps (c ∷ cs) ns ≡ (c ∷ cs) ++ ns
joined_names c cs [] h = refl
joined_names c cs (prefix t ∷ ns) h = refl
joined_names c cs (root ∷ ns) h = cc
joined_names c cs (current ∷ ns) h = cc
joined_names c cs (parent ∷ ns) h = refl
joined_names c cs (normal t ∷ ns) h = refl

-- the components of an absolute path: the root and its names
pub comps_absolute : (p : List ℕ) → is_absolute p ≡ true → comps p ≡ root ∷ names p
unfolding comps lead_of
comps_absolute p h = rw h refl

-- a relative path adds its names, by the definition
joined_relative : (c : Comp) (cs : List Comp) (p : List ℕ) → is_absolute p ≡ false → (c ∷ cs) ++ names p ≡ join_comps (c ∷ cs) (comps p)
unfolding comps lead_of
joined_relative c cs p h =
    rw h
    (elim (is_dot_first (pieces p)) as (λ v. (c ∷ cs) ++ names p ≡ join_comps (c ∷ cs) (cond v (current ∷ []) [] ++ names p)) [
      | true ↦ refl
      | false ↦ sym (joined_names c cs (names p) (all_of_names p))
    ])

-- a path that is pushed on one that is not empty, by whether it is absolute
joined_on : (x : ℕ) (b p : List ℕ) (v : Bool) → is_absolute p ≡ v → (cs : List Comp) → comps (x ∷ b) ≡ cs → is_empty cs ≡ false → comps (pushed (x ∷ b) p) ≡ join_comps cs (comps p)
joined_on x b p v e [] h f = cc
joined_on x b p true e (c ∷ cs) h f = ap comps (push_absolute (x ∷ b) p e) ∙ comps_absolute p e ∙ sym (ap (join_comps (c ∷ cs)) (comps_absolute p e))
joined_on x b p false e (c ∷ cs) h f = comps_pushed_relative x b p e ∙ ap (λ ds. ds ++ names p) h ∙ joined_relative c cs p e

-- the components of a path with another pushed
pub comps_of_join : (b p : List ℕ) → comps (pushed b p) ≡ join_comps (comps b) (comps p)
comps_of_join [] p = ap comps (push_empty p) ∙ sym (ap (λ cs. join_comps cs (comps p)) comps_none)
comps_of_join (x ∷ b) p = joined_on x b p (is_absolute p) refl (comps (x ∷ b)) refl (comps_filled x b)
