-- A parent has one component less, and no component is a prefix.
use Rattle.std.proofs.Common.{◌≡◌, inl, inr, ℕ, true, false, cond, Option, Some, List, [], ◌∷◌, ◌++◌, refl, sym, ap, ◌∙◌, subst, append_assoc}
use Rattle.std.specs.Prelude.{option_map}
use Rattle.std.proofs.lemmas.List.{append-nil}
use Rattle.just_path.specs.Path.{text_of, is_absolute}
use Rattle.just_path.specs.declared.path.Utf8Path.{Utf8Path}
use Rattle.just_path.specs.Comps.{Comp, prefix, root, current, parent, normal, pieces, is_dot_first, names, lead_of, comps, has_prefix}
use Rattle.just_path.specs.Parts.{parent_of_lead, HasOneLess}
use Rattle.just_path.specs.Scan.{HasLast}
use Rattle.just_path.proofs.Pushes.{all_named, all_of_names}

-- names and `..` are no prefixes
names_without_prefix : (cs : List Comp) → all_named cs ≡ true → has_prefix cs ≡ false
names_without_prefix [] h = refl
names_without_prefix (prefix t ∷ cs) h = cc
names_without_prefix (root ∷ cs) h = cc
names_without_prefix (current ∷ cs) h = cc
names_without_prefix (parent ∷ cs) h = names_without_prefix cs h
names_without_prefix (normal t ∷ cs) h = names_without_prefix cs h

-- no component of a path is a prefix
pub no_prefix : (t : List ℕ) → has_prefix (comps t) ≡ false
unfolding comps lead_of
no_prefix t =
    elim (is_absolute t) as (λ v. has_prefix (cond v (root ∷ []) (cond (is_dot_first (pieces t)) (current ∷ []) []) ++ names t) ≡ false) [
      | true ↦ names_without_prefix (names t) (all_of_names t)
      | false ↦ elim (is_dot_first (pieces t)) as (λ v. has_prefix (cond v (current ∷ []) [] ++ names t) ≡ false) [
        | true ↦ names_without_prefix (names t) (all_of_names t)
        | false ↦ names_without_prefix (names t) (all_of_names t)
      ]
    ]

-- the path before a last name
pub less_behind : (t before : List ℕ) (c : Comp) (d : Utf8Path) → HasLast t before c → comps (text_of d) ≡ comps before → HasOneLess (comps t) (option_map text_of (Some d))
unfolding comps
less_behind t before c d h e =
    (c, ap (λ ns. lead_of t ++ ns) h.gives ∙ ap (λ ls. ls ++ (names before ++ c ∷ [])) (sym h.begins) ∙ sym (append_assoc (lead_of before) (names before) (c ∷ [])) ∙ ap (λ cs. cs ++ c ∷ []) (sym e))

-- a path without a name
lead_alone : (t : List ℕ) → names t ≡ [] → comps t ≡ lead_of t
unfolding comps
lead_alone t n = ap (λ ns. lead_of t ++ ns) n ∙ append-nil (lead_of t)

-- the empty text has no component
nothing : comps [] ≡ []
unfolding comps lead_of names
nothing = refl

-- what stands in front of a path without a name: its parent has one component less
less_of : (t : List ℕ) → HasOneLess (lead_of t) (parent_of_lead (lead_of t))
unfolding lead_of
less_of t =
    elim (is_absolute t) as (λ v. HasOneLess (cond v (root ∷ []) (cond (is_dot_first (pieces t)) (current ∷ []) [])) (parent_of_lead (cond v (root ∷ []) (cond (is_dot_first (pieces t)) (current ∷ []) [])))) [
      | true ↦ inr refl
      | false ↦ elim (is_dot_first (pieces t)) as (λ v. HasOneLess (cond v (current ∷ []) []) (parent_of_lead (cond v (current ∷ []) []))) [
        | true ↦ (current, ap (λ cs. cs ++ current ∷ []) (sym nothing))
        | false ↦ inl refl
      ]
    ]

-- the same of the path
pub less_alone : (t : List ℕ) (ls : List Comp) (r : Option Utf8Path) → names t ≡ [] → ls ≡ lead_of t → option_map text_of r ≡ parent_of_lead ls → HasOneLess (comps t) (option_map text_of r)
less_alone t ls r n l h =
    subst (λ (o : Option (List ℕ)). HasOneLess (comps t) o) (sym (h ∙ ap parent_of_lead l))
    (subst (λ (cs : List Comp). HasOneLess cs (parent_of_lead (lead_of t))) (sym (lead_alone t n)) (less_of t))
