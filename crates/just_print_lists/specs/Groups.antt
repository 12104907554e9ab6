-- What is public, and the groups that it is in.
use Rattle.std.specs.Prelude.{ℕ, Bool, true, false, not, ◌||◌, List, [], ◌∷◌, filter, bytes_eq}
use Rattle.just_print_lists.specs.Order.{in_order}

abbrev pub is_nil : {A : Type 0} → List A → Bool
is_nil [] = true
is_nil (x ∷ xs) = false

-- whether one of some names is that name
abbrev pub has_name : List ℕ → List (List ℕ) → Bool
has_name name [] = false
has_name name (n ∷ ns) = bytes_eq n name || has_name name ns

-- the public ones of some items, by their names or as they stand
abbrev pub public_in_order : {A : Type 0} → (A → List ℕ) → (A → Bool) → Bool → List A → List A
public_in_order name private unsorted xs = filter (λ x. not (private x)) (in_order name unsorted xs)

module _ {A : Type 0} (groups : A → List (List ℕ)) where
  -- those in no group, and those in a group
  abbrev pub ungrouped : List A → List A
  ungrouped xs = filter (λ x. is_nil (groups x)) xs

  abbrev pub grouped : List ℕ → List A → List A
  grouped group xs = filter (λ x. has_name group (groups x)) xs
