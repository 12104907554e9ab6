-- Items of a list, by cases.
use Rattle.std.proofs.Common.{◌∙◌, ap, ◌≡◌, ℕ, zero, suc, ◌<◌, ◌⊎◌, inl, inr, Bool, true, false, List, [], ◌∷◌, map, length, get_or, Some, refl, subst, arith, cond, find}
use Rattle.std.specs.List.{All, Contains}

-- x is an item of the list
abbrev pub In : {A : Type 0} → A → List A → Type 0
In x [] = ⊥
In x (y ∷ ys) = (y ≡ x) ⊎ In x ys

-- the item at a place is in the list
pub in_here : {A : Type 0} (x : A) (xs : List A) (k : ℕ) → k < length xs → get_or xs k x ≡ x → In x xs
in_here x [] k lt e = absurd (omega (arith, lt))
in_here x (y ∷ ys) zero lt e = inl e
in_here x (y ∷ ys) (suc k) lt e = inr (in_here x ys k (omega (arith, lt)) e)

-- what a list contains is in it
pub contains_in : {A : Type 0} (xs : List A) (x : A) → Contains xs x → In x xs
contains_in xs x c = in_here x xs c.0 c.1 c.2

-- what is in a list, it contains
pub in_contains : {A : Type 0} (xs : List A) (x : A) → In x xs → Contains xs x
in_contains [] x h = absurd h
in_contains (y ∷ ys) x (inl e) = (0, omega arith, e)
in_contains (y ∷ ys) x (inr h) = let c = in_contains ys x h in (suc c.0, omega (arith, c.1), c.2)

-- what holds of each item holds of one that is in the list
pub all_in : {A : Type 0} (P : A → Type 0) (xs : List A) (x : A) → All P xs → In x xs → P x
all_in P xs x h i = let c = in_contains xs x i in subst P c.2 (h c.0 x c.1)

-- what holds of what is in the list holds of each item
pub in_all : {A : Type 0} (P : A → Type 0) (xs : List A) → ((x : A) → In x xs → P x) → All P xs
in_all P [] h k d lt = absurd (omega (arith, lt))
in_all P (y ∷ ys) h zero d lt = h y (inl refl)
in_all P (y ∷ ys) h (suc k) d lt = in_all P ys (λ x i. h x (inr i)) k d (omega (arith, lt))

-- an item of a mapped list
pub in_map : {A B : Type 0} (f : A → B) (xs : List A) (y : B) → In y (map f xs) → (x : A) × In x xs × (f x ≡ y)
in_map f [] y h = absurd h
in_map f (x ∷ xs) y (inl e) = (x, inl refl, e)
in_map f (x ∷ xs) y (inr h) = let m = in_map f xs y h in (m.0, inr m.1, m.2)

-- the image of an item is in the mapped list
pub map_in : {A B : Type 0} (f : A → B) (xs : List A) (x : A) (y : B) → In x xs → f x ≡ y → In y (map f xs)
map_in f [] x y i e = absurd i
map_in f (z ∷ xs) x y (inl same) e = inl (ap f same ∙ e)
map_in f (z ∷ xs) x y (inr i) e = inr (map_in f xs x y i e)

-- what `find` finds
pub found : {A : Type 0} (p : A → Bool) (xs : List A) (x : A) → find p xs ≡ Some x → (p x ≡ true) × In x xs
found p [] x e = absurd (cc)
found p (y ∷ ys) x e =
    elim (p y) as (λ b. p y ≡ b → cond b (Some y) (find p ys) ≡ Some x → (p x ≡ true) × ((y ≡ x) ⊎ In x ys)) [
      | true ↦ λ t s. let same : y ≡ x = cc in (subst (λ z. p z ≡ true) same t, inl same)
      | false ↦ λ t s. let rest = found p ys x s in (rest.0, inr rest.1)
    ] refl e
