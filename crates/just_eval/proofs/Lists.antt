-- Items of lists.
use Rattle.std.proofs.Common.{◌≡◌, ℕ, zero, suc, ◌+◌, ◌<◌, ◌⊎◌, inl, inr, true, false, List, [], ◌∷◌, ◌++◌, length, get_or, slice_get, map, Option, Some, None, is_some, refl, sym, ap, ◌∙◌, arith}
use Rattle.std.specs.List.{filter_map, cons_option}
use Rattle.just_eval_closure.proofs.Items.{In}

pub in_left : {A : Type 0} (x : A) (xs ys : List A) → In x xs → In x (xs ++ ys)
in_left x [] ys i = absurd i
in_left x (z ∷ zs) ys (inl e) = inl e
in_left x (z ∷ zs) ys (inr i) = inr (in_left x zs ys i)

pub in_right : {A : Type 0} (x : A) (xs ys : List A) → In x ys → In x (xs ++ ys)
in_right x [] ys i = i
in_right x (z ∷ zs) ys i = inr (in_right x zs ys i)

-- what passes a filter
in_kept : {B : Type 0} (o : Option B) (ys : List B) (y : B) → o ≡ Some y → In y (cons_option o ys)
in_kept None ys y h = absurd (let no : ⊥ = cc in no)
in_kept (Some w) ys y h = inl (let alike : w ≡ y = cc in alike)

in_behind : {B : Type 0} (o : Option B) (ys : List B) (y : B) → In y ys → In y (cons_option o ys)
in_behind None ys y i = i
in_behind (Some w) ys y i = inr i

pub passes : {A B : Type 0} (f : A → Option B) (xs : List A) (x : A) (y : B) → In x xs → f x ≡ Some y → In y (filter_map f xs)
passes f [] x y i h = absurd i
passes f (z ∷ zs) x y (inl same) h = in_kept (f z) (filter_map f zs) y (ap f same ∙ h)
passes f (z ∷ zs) x y (inr i) h = in_behind (f z) (filter_map f zs) y (passes f zs x y i h)

-- what a filter keeps comes from an item
from_option : {B : Type 0} (o : Option B) (ys : List B) (y : B) → In y (cons_option o ys) → (o ≡ Some y) ⊎ In y ys
from_option None ys y i = inr i
from_option (Some w) ys y (inl e) = inl (ap (λ v. Some v) e)
from_option (Some w) ys y (inr i) = inr i

pub passed : {A B : Type 0} (f : A → Option B) (xs : List A) (y : B) → In y (filter_map f xs) → (x : A) × (f x ≡ Some y)
passed f [] y i = absurd i
passed f (z ∷ zs) y i = elim (from_option (f z) (filter_map f zs) y i) [ inl e ↦ (z, e) | inr more ↦ passed f zs y more ]

-- functions that agree keep the same, and map to the same
pub same_kept : {A B : Type 0} (f g : A → Option B) (xs : List A) → ((x : A) → f x ≡ g x) → filter_map f xs ≡ filter_map g xs
same_kept f g [] same = refl
same_kept f g (x ∷ xs) same = ap (λ o. cons_option o (filter_map f xs)) (same x) ∙ ap (λ ys. cons_option (g x) ys) (same_kept f g xs same)

pub same_mapped : {A B : Type 0} (f g : A → B) (xs : List A) → ((x : A) → f x ≡ g x) → map f xs ≡ map g xs
same_mapped f g [] same = refl
same_mapped f g (x ∷ xs) same = ap (λ y. y ∷ map f xs) (same x) ∙ ap (λ ys. g x ∷ ys) (same_mapped f g xs same)

pub length_mapped : {A B : Type 0} (f : A → B) (xs : List A) → length (map f xs) ≡ length xs
length_mapped f [] = refl
length_mapped f (x ∷ xs) = ap (λ n. suc n) (length_mapped f xs)

-- the item of a mapped list
pub mapped_at : {A B : Type 0} (f : A → B) (xs : List A) (n : ℕ) (x : A) (d : B) → slice_get xs n ≡ Some x → get_or (map f xs) n d ≡ f x
mapped_at f [] n x d h = absurd (let no : ⊥ = cc in no)
mapped_at f (y ∷ ys) zero x d h = ap f (let same : y ≡ x = cc in same)
mapped_at f (y ∷ ys) (suc n) x d h = mapped_at f ys n x d h

pub mapped_get : {A B : Type 0} (f : A → B) (xs : List A) (n : ℕ) (x : A) → slice_get xs n ≡ Some x → slice_get (map f xs) n ≡ Some (f x)
mapped_get f [] n x h = absurd (let no : ⊥ = cc in no)
mapped_get f (y ∷ ys) zero x h = ap (λ z. Some (f z)) (let same : y ≡ x = cc in same)
mapped_get f (y ∷ ys) (suc n) x h = mapped_get f ys n x h

pub mapped_from : {A B : Type 0} (f : A → B) (xs : List A) (n : ℕ) (y : B) → slice_get (map f xs) n ≡ Some y → (x : A) × (slice_get xs n ≡ Some x) × (f x ≡ y)
mapped_from f [] n y h = absurd (let no : ⊥ = cc in no)
mapped_from f (z ∷ zs) zero y h = (z, refl, let same : f z ≡ y = cc in same)
mapped_from f (z ∷ zs) (suc n) y h = mapped_from f zs n y h

-- an item that is there is the one read, and its number is below the length
pub at_number : {A : Type 0} (xs : List A) (n : ℕ) (x : A) → n < length xs → x ≡ get_or xs n x → slice_get xs n ≡ Some x
at_number [] n x lt is = absurd (omega (arith, lt))
at_number (y ∷ ys) zero x lt is = ap (λ z. Some z) (sym is)
at_number (y ∷ ys) (suc n) x lt is = at_number ys n x (omega (arith, lt)) is

pub there_at_number : {A : Type 0} (xs : List A) (n : ℕ) → n < length xs → (x : A) × (slice_get xs n ≡ Some x)
there_at_number [] n lt = absurd (omega (arith, lt))
there_at_number (y ∷ ys) zero lt = (y, refl)
there_at_number (y ∷ ys) (suc n) lt = there_at_number ys n (omega (arith, lt))

pub below_length : {A : Type 0} (xs : List A) (n : ℕ) (x : A) → slice_get xs n ≡ Some x → n < length xs
below_length [] n x h = absurd (let no : ⊥ = cc in no)
below_length (y ∷ ys) zero x h = omega arith
below_length (y ∷ ys) (suc n) x h = omega (arith, below_length ys n x h)

-- lists of one length that agree at each place are equal
pub one_list : {A : Type 0} (xs ys : List A) → length xs ≡ length ys → ((n : ℕ) (x y : A) → slice_get xs n ≡ Some x → slice_get ys n ≡ Some y → x ≡ y) → xs ≡ ys
one_list [] [] same at = refl
one_list [] (y ∷ ys) same at = absurd (omega (arith, same))
one_list (x ∷ xs) [] same at = absurd (omega (arith, same))
one_list (x ∷ xs) (y ∷ ys) same at = ap (λ z. z ∷ xs) (at 0 x y refl refl) ∙ ap (λ zs. y ∷ zs) (one_list xs ys (omega (arith, same)) (λ n a b h g. at (suc n) a b h g))

-- what is there
pub some_of : {A : Type 0} (o : Option A) → is_some o ≡ true → (x : A) × (o ≡ Some x)
some_of None h = absurd (let no : ⊥ = cc in no)
some_of (Some x) h = (x, refl)

pub none_of : {A : Type 0} (o : Option A) → is_some o ≡ false → o ≡ None
none_of None h = refl
none_of (Some x) h = absurd (let no : ⊥ = cc in no)
