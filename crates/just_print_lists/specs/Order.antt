-- Items in the order of their names.
use Rattle.std.specs.Prelude.{ℕ, suc, Bool, false, not, ◌==◌, if◌then◌else◌, List, [], ◌∷◌, filter, Option, Some, None}
use Rattle.std.specs.Cmp.Lexicographic.{slice_cmp}
use Rattle.std.specs.Ordering.{nat_cmp, is_gt}

-- a name that begins with `_` is private
abbrev pub begins_underscore : List ℕ → Bool
begins_underscore [] = false
begins_underscore (c ∷ cs) = c == 95

-- an item where it is wanted, and one where there is one
abbrev pub only_where : {A : Type 0} → Bool → A → List A
only_where wanted x = if wanted then x ∷ [] else []

abbrev pub only_some : {A : Type 0} → Option A → List A
only_some None = []
only_some (Some x) = x ∷ []

module _ {A : Type 0} (name : A → List ℕ) where
  -- an item among others in order: in front of the first whose name isn't before its own
  abbrev pub placed : A → List A → List A
  placed x [] = x ∷ []
  placed x (y ∷ ys) = if is_gt (slice_cmp nat_cmp (name x) (name y)) then y ∷ placed x ys else x ∷ y ∷ ys

  -- items by the bytes of their names; of one name the earlier first
  abbrev pub by_name : List A → List A
  by_name [] = []
  by_name (x ∷ xs) = placed x (by_name xs)

  -- items by their names, or as they stand
  abbrev pub in_order : Bool → List A → List A
  in_order unsorted xs = if unsorted then xs else by_name xs

  -- those whose names aren't private, by their names
  abbrev pub public_by_name : List A → List A
  public_by_name xs = filter (λ x. not (begins_underscore (name x))) (by_name xs)

  -- names with their places, from that place on
  abbrev pub keys_from : ℕ → List A → List (List ℕ × ℕ)
  keys_from n [] = []
  keys_from n (x ∷ xs) = (name x, n) ∷ keys_from (suc n) xs
