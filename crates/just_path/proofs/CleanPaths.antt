-- A path that is made of components has these components.
use Rattle.std.proofs.Common.{◌≡◌, ℕ, Bool, true, false, not, eqb, cond, ◌||◌, ◌⊎◌, inl, inr, ⊎_elim, List, [], ◌∷◌, ◌++◌, length, fold, map, refl, sym, ap, ◌∙◌, subst, append_assoc}
use Rattle.std.specs.List.{flat_map}
use Rattle.std.specs.Str.{bytes_eq}
use Rattle.std.proofs.lemmas.List.{append-nil}
use Rattle.just_path.specs.Path.{is_absolute, ends_open, pushed}
use Rattle.just_path.specs.Comps.{Comp, prefix, root, current, parent, normal, comp_text, dot, dots, slash, with_first_byte, pieces, is_dot_first, is_empty, comps_of_piece, names, lead_of, comps}
use Rattle.just_path.specs.Component.{comp_of}
use Rattle.just_path.specs.declared.component.Utf8Component.{Utf8Component}
use Rattle.just_path.specs.Clean.{IsNormalForm, IsCleanOf, without_parents, after_name, normal_form_with, normal_form, or_current, path_from, cleaned, no_parent, parents_first}
use Rattle.just_path.specs.Reduced.{begins_with_parent, is_reduced, comps_of}
use Rattle.just_path.proofs.NormalForms.{IsNormalForm-normal_form, one_normal_form, normal_form_is_reduced, normal_form_of_reduced, reduced_first, reduced_rest}
use Rattle.just_path.proofs.Walks.{lead_named}
use Rattle.just_path.proofs.Pushes.{all_named, all_append, all_of_piece, relative_unled, push_empty, comps_pushed_relative}

-- each piece of a text is one piece
abbrev AllPlain : List (List ℕ) → Type 0
AllPlain [] = Unit {0}
AllPlain (p ∷ ps) = (pieces p ≡ p ∷ []) × AllPlain ps

-- a byte that is no slash in front of pieces keeps each one piece
plain_with_first_byte : (b : ℕ) (ps : List (List ℕ)) → eqb b 47 ≡ false → AllPlain ps → AllPlain (with_first_byte b ps)
plain_with_first_byte b [] e a = (rw e refl, tt)
plain_with_first_byte b (p ∷ ps) e a = (rw (e, a.0) refl, a.1)

-- the pieces of a text with a byte in front, by whether it is a slash
plain_case : (b : ℕ) (bs : List ℕ) (v : Bool) → eqb b 47 ≡ v → AllPlain (pieces bs) → AllPlain (cond v ([] ∷ pieces bs) (with_first_byte b (pieces bs)))
plain_case b bs true e a = (refl, a)
plain_case b bs false e a = plain_with_first_byte b (pieces bs) e a

-- each piece of a text is one piece
plain_pieces : (t : List ℕ) → AllPlain (pieces t)
plain_pieces [] = (refl, tt)
plain_pieces (b ∷ bs) = plain_case b bs (eqb b 47) refl (plain_pieces bs)

-- a component that its text gives, as a single piece
abbrev pub IsGood : Comp → Type 0
IsGood c = (comps_of_piece (comp_text c) ≡ c ∷ []) × (pieces (comp_text c) ≡ comp_text c ∷ [])

-- each component of a list is such a one
abbrev pub AllGood : List Comp → Type 0
AllGood [] = Unit {0}
AllGood (c ∷ cs) = IsGood c × AllGood cs

-- two lists of such components make one
good_append : (xs ys : List Comp) → AllGood xs → AllGood ys → AllGood (xs ++ ys)
good_append [] ys a b = b
good_append (x ∷ xs) ys a b = (a.0, good_append xs ys a.1 b)

-- the components of a piece are such ones
good_piece : (p : List ℕ) (v w : Bool) → (is_empty p || bytes_eq p dot) ≡ v → bytes_eq p dots ≡ w → pieces p ≡ p ∷ [] → AllGood (cond v [] (cond w (parent ∷ []) (normal p ∷ [])))
good_piece p true w e f a = tt
good_piece p false true e f a = ((refl, refl), tt)
good_piece p false false e f a = ((rw (e, f) refl, a), tt)

-- so are those of pieces
good_pieces : (ps : List (List ℕ)) → AllPlain ps → AllGood (flat_map comps_of_piece ps)
good_pieces [] a = tt
good_pieces (p ∷ ps) a = good_append (comps_of_piece p) (flat_map comps_of_piece ps) (good_piece p (is_empty p || bytes_eq p dot) (bytes_eq p dots) refl refl a.0) (good_pieces ps a.1)

-- so are the names of a text
good_names : (t : List ℕ) → AllGood (names t)
unfolding names
good_names t = good_pieces (pieces t) (plain_pieces t)

-- the normal form has such components too
good_without_parents : (cs : List Comp) → AllGood cs → AllGood (without_parents cs)
good_without_parents [] a = tt
good_without_parents (prefix t ∷ cs) a = a
good_without_parents (root ∷ cs) a = a
good_without_parents (current ∷ cs) a = a
good_without_parents (parent ∷ cs) a = good_without_parents cs a.1
good_without_parents (normal n ∷ cs) a = a

-- a name in front of such components, or without the first of them, leaves such ones
good_after : (n : List ℕ) (cs : List Comp) → IsGood (normal n) → AllGood cs → AllGood (after_name n cs)
good_after n [] g a = (g, tt)
good_after n (prefix t ∷ cs) g a = (g, a)
good_after n (root ∷ cs) g a = (g, a)
good_after n (current ∷ cs) g a = (g, a)
good_after n (parent ∷ cs) g a = a.1
good_after n (normal m ∷ cs) g a = (g, a)

-- what such a component makes of such components are such ones
good_put : (c : Comp) (cs : List Comp) → IsGood c → AllGood cs → AllGood (normal_form_with c cs)
good_put (prefix t) cs g a = (g, a)
good_put root cs g a = (g, good_without_parents cs a)
good_put current cs g a = a
good_put parent cs g a = (g, a)
good_put (normal n) cs g a = good_after n cs g a

-- the normal form of such components has such ones
good_reduced : (cs : List Comp) → AllGood cs → AllGood (normal_form cs)
good_reduced [] a = tt
good_reduced (c ∷ cs) a = good_put c (normal_form cs) a.0 (good_reduced cs a.1)

-- such components, with or without a root in front
abbrev Shaped : List Comp → Type 0
Shaped n = AllGood n ⊎ ((ns : List Comp) × (n ≡ root ∷ ns) × AllGood ns)

-- the normal form of the components of a path has this shape
shaped : (t : List ℕ) → Shaped (normal_form (comps t))
unfolding comps lead_of
shaped t =
    elim (is_absolute t) as (λ v. Shaped (normal_form (cond v (root ∷ []) (cond (is_dot_first (pieces t)) (current ∷ []) []) ++ names t))) [
      | true ↦ inr (without_parents (normal_form (names t)), refl, good_without_parents (normal_form (names t)) (good_reduced (names t) (good_names t)))
      | false ↦ elim (is_dot_first (pieces t)) as (λ v. Shaped (normal_form (cond v (current ∷ []) [] ++ names t))) [
        | true ↦ inl (good_reduced (names t) (good_names t))
        | false ↦ inl (good_reduced (names t) (good_names t))
      ]
    ]

-- pushing such components
good_unled : (c : Comp) → IsGood c → lead_of (comp_text c) ≡ []
good_unled c g = lead_named (comp_text c) (comp_text c) [] c g.1 g.0

-- the names of the text of such a component: itself
good_one : (c : Comp) → IsGood c → names (comp_text c) ≡ c ∷ []
unfolding names
good_one c g = ap (flat_map comps_of_piece) g.1 ∙ append-nil (comps_of_piece (comp_text c)) ∙ g.0

-- the components of the text of such a component: itself
good_comps : (c : Comp) → IsGood c → comps (comp_text c) ≡ c ∷ []
unfolding comps
good_comps c g = ap (λ ls. ls ++ names (comp_text c)) (good_unled c g) ∙ good_one c g

-- the text of a name is not empty
text_filled : (t : List ℕ) (c : Comp) → comps_of_piece t ≡ c ∷ [] → is_empty t ≡ false
text_filled [] c h = cc
text_filled (b ∷ bs) c h = refl

-- a path with a relative one pushed is not empty where it was not
pushed_filled : (x : ℕ) (b p : List ℕ) → is_absolute p ≡ false → is_empty (pushed (x ∷ b) p) ≡ false
pushed_filled x b p h =
    rw h (elim (ends_open (x ∷ b)) as (λ v. is_empty (cond v ((x ∷ b) ++ 47 ∷ p) ((x ∷ b) ++ p)) ≡ false) [ true ↦ refl | false ↦ refl ])

-- the texts of such components, pushed on a path, add them to its components
fold_good : (cs : List Comp) (b : List ℕ) → is_empty b ≡ false → AllGood cs → comps (fold pushed b (map comp_text cs)) ≡ comps b ++ cs
fold_good [] b f a = sym (append-nil (comps b))
fold_good (c ∷ cs) [] f a = cc
fold_good (c ∷ cs) (x ∷ b) f a =
    let rel : is_absolute (comp_text c) ≡ false = relative_unled (comp_text c) (good_unled c a.0) in
    fold_good cs (pushed (x ∷ b) (comp_text c)) (pushed_filled x b (comp_text c) rel) a.1
    ∙ ap (λ ds. ds ++ cs) (comps_pushed_relative x b (comp_text c) rel ∙ ap (λ ns. comps (x ∷ b) ++ ns) (good_one c a.0))
    ∙ append_assoc (comps (x ∷ b)) (c ∷ []) cs

-- the path of such components has these components
good_path : (c : Comp) (cs : List Comp) → IsGood c → AllGood cs → comps (path_from (c ∷ cs)) ≡ c ∷ cs
good_path c cs g a =
    ap (λ b. comps (fold pushed b (map comp_text cs))) (push_empty (comp_text c))
    ∙ fold_good cs (comp_text c) (text_filled (comp_text c) c g.0) a
    ∙ ap (λ ds. ds ++ cs) (good_comps c g)

-- the components of `/`
root_comps : comps slash ≡ root ∷ []
unfolding comps lead_of names
root_comps = refl

-- the components of `.`
dot_comps : comps dot ≡ current ∷ []
unfolding comps lead_of names
dot_comps = refl

-- the path of the root and such components has these components
root_path : (cs : List Comp) → AllGood cs → comps (path_from (root ∷ cs)) ≡ root ∷ cs
root_path cs a = fold_good cs slash refl a ∙ ap (λ ds. ds ++ cs) root_comps

-- the path of a list of that shape has these components, or `.`
made_of : (n : List Comp) → Shaped n → comps (path_from (or_current n)) ≡ or_current n
made_of [] s = dot_comps
made_of (c ∷ cs) s =
    ⊎_elim
    (λ (a : AllGood (c ∷ cs)). good_path c cs a.0 a.1)
    (λ (a : (ns : List Comp) × (c ∷ cs ≡ root ∷ ns) × AllGood ns).
    subst (λ (ds : List Comp). comps (path_from (or_current ds)) ≡ or_current ds) (sym a.1) (root_path a.0 a.2))
    s

-- the components of a clean path are the normal form, or `.`
pub comps_cleaned : (t : List ℕ) → comps (cleaned t) ≡ or_current (normal_form (comps t))
unfolding cleaned
comps_cleaned t = made_of (normal_form (comps t)) (shaped t)

-- the laws
again_reduced : (n : List Comp) → is_reduced n ≡ true → or_current (normal_form (or_current n)) ≡ or_current n
again_reduced [] h = refl
again_reduced (c ∷ cs) h = ap or_current (normal_form_of_reduced (c ∷ cs) h)

-- what is clean stays as it is
pub clean_again : (t : List ℕ) → cleaned (cleaned t) ≡ cleaned t
unfolding cleaned
clean_again t =
    ap (λ cs. path_from (or_current (normal_form cs))) (made_of (normal_form (comps t)) (shaped t))
    ∙ ap path_from (again_reduced (normal_form (comps t)) (normal_form_is_reduced (comps t)))

-- a clean path is made of a normal form of the components
pub clean_is_normal : (t : List ℕ) → IsCleanOf t (cleaned t)
unfolding cleaned
clean_is_normal t = (normal_form (comps t), IsNormalForm-normal_form (comps t), refl)

-- and each normal form of the components is that of the clean path
pub clean_only : (t : List ℕ) (n : List Comp) → IsNormalForm (comps t) n → comps (cleaned t) ≡ or_current n
clean_only t n h = comps_cleaned t ∙ ap or_current (one_normal_form (comps t) (normal_form (comps t)) n (IsNormalForm-normal_form (comps t)) h)

-- such components are names or `..`
good_kind : (cs : List Comp) → AllGood cs → all_named cs ≡ true
good_kind [] a = refl
good_kind (c ∷ cs) a =
    let one : all_named (c ∷ []) ≡ true = ap all_named (sym a.0.0) ∙ all_of_piece (comp_text c) in
    all_append (c ∷ []) cs ∙ rw (one, good_kind cs a.1) refl

-- what does not hold is false
not_true : (v : Bool) → not v ≡ true → v ≡ false
not_true true h = cc
not_true false h = refl

-- reduced names that do not begin with `..` have none
no_ups : (cs : List Comp) → all_named cs ≡ true → is_reduced cs ≡ true → begins_with_parent cs ≡ false → no_parent cs ≡ true
no_ups [] a s b = refl
no_ups (prefix t ∷ cs) a s b = cc
no_ups (root ∷ cs) a s b = cc
no_ups (current ∷ cs) a s b = cc
no_ups (parent ∷ cs) a s b = cc
no_ups (normal n ∷ cs) a s b = no_ups cs a (reduced_rest (normal n) cs s) (not_true (begins_with_parent cs) (reduced_first (normal n) cs s))

-- reduced names have `..` in front alone
ups_first : (cs : List Comp) → all_named cs ≡ true → is_reduced cs ≡ true → parents_first cs ≡ true
ups_first [] a s = refl
ups_first (prefix t ∷ cs) a s = cc
ups_first (root ∷ cs) a s = cc
ups_first (current ∷ cs) a s = cc
ups_first (parent ∷ cs) a s = ups_first cs a s
ups_first (normal n ∷ cs) a s = no_ups cs a (reduced_rest (normal n) cs s) (not_true (begins_with_parent cs) (reduced_first (normal n) cs s))

-- behind the root they have none
ups_root : (cs : List Comp) → AllGood cs → is_reduced (root ∷ cs) ≡ true → parents_first (root ∷ cs) ≡ true
ups_root cs a s = no_ups cs (good_kind cs a) (reduced_rest root cs s) (not_true (begins_with_parent cs) (reduced_first root cs s))

-- so does a reduced list of that shape
ups_of : (n : List Comp) → Shaped n → is_reduced n ≡ true → parents_first (or_current n) ≡ true
ups_of [] s h = refl
ups_of (c ∷ cs) s h =
    ⊎_elim
    (λ (a : AllGood (c ∷ cs)). ups_first (c ∷ cs) (good_kind (c ∷ cs) a) h)
    (λ (a : (ns : List Comp) × (c ∷ cs ≡ root ∷ ns) × AllGood ns).
    subst (λ (ds : List Comp). parents_first (or_current ds) ≡ true) (sym a.1) (ups_root a.0 a.2 (ap is_reduced (sym a.1) ∙ h)))
    s

-- a clean path has `..` in front alone, and none behind the root
pub clean_ups : (t : List ℕ) → parents_first (comps (cleaned t)) ≡ true
clean_ups t = ap parents_first (comps_cleaned t) ∙ ups_of (normal_form (comps t)) (shaped t) (normal_form_is_reduced (comps t))

-- what the code makes
fold_comps : (cs : List Utf8Component) (b : List ℕ) → fold (λ path component. pushed path (comp_text (comp_of component))) b cs ≡ fold pushed b (map comp_text (map comp_of cs))
fold_comps [] b = refl
fold_comps (c ∷ cs) b = fold_comps cs (pushed b (comp_text (comp_of c)))

-- where nothing stays the clean path is `.`
pub made_empty : (t : List ℕ) (cs : List Utf8Component) → comps_of cs ≡ normal_form (comps t) → cs ≡ [] → dot ≡ cleaned t
unfolding cleaned
made_empty t cs h e = sym (ap (λ n. path_from (or_current n)) (sym h ∙ ap comps_of e))

-- a list that is not empty needs no `.`
filled_same : (cs : List Utf8Component) → is_empty cs ≡ false → or_current (comps_of cs) ≡ comps_of cs
filled_same [] h = cc
filled_same (c ∷ cs) h = refl

-- else it is the path of what stays
pub made_path : (t : List ℕ) (cs : List Utf8Component) → comps_of cs ≡ normal_form (comps t) → is_empty cs ≡ false → fold (λ path component. pushed path (comp_text (comp_of component))) [] cs ≡ cleaned t
unfolding cleaned
made_path t cs h e = fold_comps cs [] ∙ ap path_from (sym (filled_same cs e) ∙ ap or_current h)

-- a list whose length is not 0 is not empty
pub filled_from_length : {A : Type 0} (xs : List A) → (length xs ≡ 0 → ⊥) → is_empty xs ≡ false
filled_from_length [] h = absurd (h refl)
filled_from_length (x ∷ xs) h = refl
