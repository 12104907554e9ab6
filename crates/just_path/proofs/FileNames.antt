-- The last component of a path, and what stands before it.
use Rattle.std.proofs.Common.{◌≡◌, ℕ, true, false, List, [], ◌∷◌, ◌++◌, Some, None, refl, sym, ap, ◌∙◌, cond}
use Rattle.std.proofs.lemmas.List.{append-nil}
use Rattle.just_path.specs.Path.{is_absolute}
use Rattle.just_path.specs.Comps.{Comp, root, current, pieces, is_dot_first, is_empty, names, lead_of, comps}
use Rattle.just_path.specs.Parts.{text_upto, parent_of, parent_of_lead}
use Rattle.just_path.specs.Names.{last_of, name_of, file_name_of}
use Rattle.just_path.specs.Scan.{HasLast}
use Rattle.just_path.proofs.IteratorMoves.{last_left}
use Rattle.std.specs.Prelude.{option_and_then}

-- the last of a list with an item behind it is that item
last_pushed : (cs : List Comp) (c : Comp) → last_of (cs ++ c ∷ []) ≡ Some c
last_pushed [] c = refl
last_pushed (a ∷ []) c = refl
last_pushed (a ∷ b ∷ cs) c = last_pushed (b ∷ cs) c

-- the last component of a path decides its file name
pub file_name_last : (t before : List ℕ) (c : Comp) → HasLast t before c → name_of c ≡ file_name_of t
file_name_last t before c h = ap (option_and_then name_of) (sym (ap last_of (last_left false t before c h) ∙ last_pushed (comps before) c))

-- a path without a name has no file name
pub file_name_none : (t : List ℕ) → names t ≡ [] → None ≡ file_name_of t
unfolding comps lead_of
file_name_none t h =
    sym (ap (λ ns. option_and_then name_of (last_of (lead_of t ++ ns))) h ∙ ap (λ cs. option_and_then name_of (last_of cs)) (append-nil (lead_of t))
    ∙ elim (is_absolute t) as (λ v. option_and_then name_of (last_of (cond v (root ∷ []) (cond (is_dot_first (pieces t)) (current ∷ []) []))) ≡ None) [
      | true ↦ refl
      | false ↦ elim (is_dot_first (pieces t)) as (λ v. option_and_then name_of (last_of (cond v (current ∷ []) [])) ≡ None) [ true ↦ refl | false ↦ refl ]
    ])

-- a list with an item behind it is not empty
filled : (ns : List Comp) (c : Comp) → is_empty (ns ++ c ∷ []) ≡ false
filled [] c = refl
filled (n ∷ ns) c = refl

-- what stands before the last name, up to its last component, is the parent
pub parent_behind : (t before : List ℕ) (c : Comp) → HasLast t before c → Some (text_upto 0 before) ≡ parent_of t
unfolding parent_of
parent_behind t before c h =
    let e : is_empty (names t) ≡ false = ap is_empty h.gives ∙ filled (names before) c in
    sym (rw (e, h.cuts 0) refl)

-- the parent of a path without a name is that of what stands in front
pub parent_alone : (t : List ℕ) → names t ≡ [] → parent_of_lead (lead_of t) ≡ parent_of t
unfolding parent_of
parent_alone t h = sym (rw h refl)
