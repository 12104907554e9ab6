-- Lists in which nothing stands twice.
use Rattle.std.proofs.Common.{◌≡◌, ℕ, suc, ◌+◌, ◌⊎◌, inl, inr, List, [], ◌∷◌, ◌++◌, length, map, Option, Some, None, refl, sym, ap, ◌∙◌, subst, arith, length-append}
use Rattle.std.specs.Prelude.{filter_map}
use Rattle.std.specs.List.{cons_option}
use Rattle.just_eval_closure.proofs.Items.{In, in_map, map_in}

-- a thing of two lists is in one of them
pub in_parts : {A : Type 0} (xs ys : List A) (x : A) → In x (xs ++ ys) → In x xs ⊎ In x ys
in_parts [] ys x i = inr i
in_parts (z ∷ xs) ys x (inl e) = inl (inl e)
in_parts (z ∷ xs) ys x (inr i) =
    elim (in_parts xs ys x i) [
      | inl a ↦ inl (inr a)
      | inr b ↦ inr b
    ]

-- ---- lists in which nothing stands twice

abbrev pub AreApart : {A : Type 0} → List A → Type 0
AreApart [] = Unit {0}
AreApart (x ∷ xs) = (In x xs → ⊥) × AreApart xs

pub apart_append : {A : Type 0} (xs ys : List A) → AreApart xs → AreApart ys → ((x : A) → In x xs → In x ys → ⊥) → AreApart (xs ++ ys)
apart_append [] ys a b never = b
apart_append (z ∷ xs) ys a b never = (
  (λ i. elim (in_parts xs ys z i) [
    | inl l ↦ a.0 l
    | inr r ↦ never z (inl refl) r
  ]),
  apart_append xs ys a.1 b (λ x i j. never x (inr i) j),
)

-- what is made of things stands apart where something that it tells of them does
pub apart_by : {A B C : Type 0} (f : A → B) (g : A → C) → ((a b : A) → f a ≡ f b → g a ≡ g b) → (xs : List A) → AreApart (map g xs) → AreApart (map f xs)
apart_by f g tells [] a = tt
apart_by f g tells (x ∷ xs) a =
    ((λ i. let h = in_map f xs (f x) i in a.0 (map_in g xs h.0 (g x) h.1 (tells h.0 x h.2))), apart_by f g tells xs a.1)

-- ---- one more at the end

pub pushed_same : {A : Type 0} (xs ys : List A) (a b : A) → xs ++ a ∷ [] ≡ ys ++ b ∷ [] → (xs ≡ ys) × (a ≡ b)
pushed_same [] [] a b e = (refl, cc)
pushed_same [] (y ∷ ys) a b e =
    let size : 1 ≡ suc (length (ys ++ b ∷ [])) = ap length e in
    let more : length (ys ++ b ∷ []) ≡ length ys + 1 = length-append ys (b ∷ []) in
    absurd (omega (arith, size, more))
pushed_same (x ∷ xs) [] a b e =
    let size : suc (length (xs ++ a ∷ [])) ≡ 1 = ap length e in
    let more : length (xs ++ a ∷ []) ≡ length xs + 1 = length-append xs (a ∷ []) in
    absurd (omega (arith, size, more))
pushed_same (x ∷ xs) (y ∷ ys) a b e =
    let first : x ≡ y = cc in
    let rest : xs ++ a ∷ [] ≡ ys ++ b ∷ [] = cc in
    let h = pushed_same xs ys a b rest in
    (ap (λ z. z ∷ xs) first ∙ ap (λ zs. y ∷ zs) h.0, h.1)

-- ---- what is picked

in_behind : {N : Type 0} (o : Option N) (ns : List N) (n : N) → In n ns → In n (cons_option o ns)
in_behind None ns n i = i
in_behind (Some m) ns n i = inr i

module _ {A B : Type 0} (f : A → Option B) (g : A → Option ℕ) (Q : B → ℕ → Type 0) (leads : (a : A) (y : B) → f a ≡ Some y → (w : ℕ) × (g a ≡ Some w) × Q y w) where
  abbrev LeadsAmong : List A → B → Type 0
  LeadsAmong xs y = (w : ℕ) × In w (filter_map g xs) × Q y w

  leads_more : (x : A) (xs : List A) (y : B) → LeadsAmong xs y → LeadsAmong (x ∷ xs) y
  leads_more x xs y h = (h.0, in_behind (g x) (filter_map g xs) h.0 h.1, h.2)

  leads_here : (x : A) (xs : List A) (z y : B) → f x ≡ Some z → z ≡ y → LeadsAmong (x ∷ xs) y
  leads_here x xs z y e s = let h = leads x z e in (h.0, subst (λ o. In h.0 (cons_option o (filter_map g xs))) (sym h.1) (inl refl), subst (λ q. Q q h.0) s h.2)

  -- where each thing that is picked gives a number that is picked too
  pub picked_leads : (xs : List A) (y : B) → In y (filter_map f xs) → (w : ℕ) × In w (filter_map g xs) × Q y w
  picked_leads [] y i = absurd i
  picked_leads (x ∷ xs) y i =
      elim (f x) as (λ o. f x ≡ o → In y (cons_option o (filter_map f xs)) → LeadsAmong (x ∷ xs) y) [
        | None ↦ λ e j. leads_more x xs y (picked_leads xs y j)
        | Some z ↦ λ e j. elim j [
          | inl s ↦ leads_here x xs z y e s
          | inr k ↦ leads_more x xs y (picked_leads xs y k)
        ]
      ] refl i
