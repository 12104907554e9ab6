-- What `same_key` and its parts decide: equality.
use Rattle.std.proofs.Common.{◌≡◌, ℕ, Bool, true, false, ◌&&◌, List, [], ◌∷◌, refl, ap, ◌∙◌, bytes_eq}
use Rattle.std.proofs.lemmas.Slice.Eq.{bytes_eq-Decides}
use Rattle.std.specs.Cmp.Lexicographic.{pointwise}
use Rattle.just_lang_types.specs.declared.recipe.Modulepath.{Modulepath}
use Rattle.just_lang_types.specs.declared.key.Key.{Key}
use Rattle.just_lang_types.specs.declared.key.Value.{Value}
use Rattle.just_lang_types.specs.Keys.{same_path, same_value, same_key}

-- both parts of a true conjunction
pub and_both : (a b : Bool) → (a && b) ≡ true → (a ≡ true) × (b ≡ true)
and_both true b h = (refl, h)
and_both false b h = absurd (cc)

-- a conjunction of true parts is true
pub both_and : (a b : Bool) → a ≡ true → b ≡ true → (a && b) ≡ true
both_and true b h e = e
both_and false b h e = h

-- lists that are equal item by item are equal
pub same_lists_is : {A : Type 0} (same : A → A → Bool) → ((x y : A) → same x y ≡ true → x ≡ y) → (xs ys : List A) → pointwise same xs ys ≡ true → xs ≡ ys
same_lists_is same is [] [] h = refl
same_lists_is same is [] (y ∷ ys) h = absurd (cc)
same_lists_is same is (x ∷ xs) [] h = absurd (cc)
same_lists_is same is (x ∷ xs) (y ∷ ys) h =
    let both = and_both (same x y) (pointwise same xs ys) h in
    ap (λ z. z ∷ xs) (is x y both.0) ∙ ap (λ zs. y ∷ zs) (same_lists_is same is xs ys both.1)

-- a list is equal to itself item by item
pub same_lists_self : {A : Type 0} (same : A → A → Bool) → ((x : A) → same x x ≡ true) → (xs : List A) → pointwise same xs xs ≡ true
same_lists_self same self [] = refl
same_lists_self same self (x ∷ xs) = both_and (same x x) (pointwise same xs xs) (self x) (same_lists_self same self xs)

-- texts that are told equal are equal
pub bytes_is : (x y : List ℕ) → bytes_eq x y ≡ true → x ≡ y
bytes_is x y h = (bytes_eq-Decides x y).0 h

-- a text is told equal to itself
pub bytes_self : (x : List ℕ) → bytes_eq x x ≡ true
bytes_self x = (bytes_eq-Decides x x).1 refl

-- paths that are told the same are equal
pub same_path_is : (a b : Modulepath) → same_path a b ≡ true → a ≡ b
same_path_is a b h = ap (λ c. record { components = c }) (same_lists_is bytes_eq bytes_is a.components b.components h)

-- a path is told the same as itself
pub same_path_self : (a : Modulepath) → same_path a a ≡ true
same_path_self a = same_lists_self bytes_eq bytes_self a.components

-- values that are told the same are equal
pub same_value_is : (a b : Value) → same_value a b ≡ true → a ≡ b
same_value_is a b h = ap (λ c. record { elements = c }) (same_lists_is bytes_eq bytes_is a.elements b.elements h)

-- a value is told the same as itself
pub same_value_self : (a : Value) → same_value a a ≡ true
same_value_self a = same_lists_self bytes_eq bytes_self a.elements

-- keys that are told the same are equal
pub same_key_is : (a b : Key) → same_key a b ≡ true → a ≡ b
same_key_is a b h =
    let both = and_both (same_path a.recipe b.recipe) (pointwise same_value a.arguments b.arguments) h in
    ap (λ r. record { recipe = r; arguments = a.arguments }) (same_path_is a.recipe b.recipe both.0) ∙ ap (λ r. record { recipe = b.recipe; arguments = r }) (same_lists_is same_value same_value_is a.arguments b.arguments both.1)

-- a key is told the same as itself
pub same_key_self : (a : Key) → same_key a a ≡ true
same_key_self a = both_and (same_path a.recipe a.recipe) (pointwise same_value a.arguments a.arguments) (same_path_self a.recipe) (same_lists_self same_value same_value_self a.arguments)
