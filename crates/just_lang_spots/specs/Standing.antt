-- Which of some items of one name stand, each in its file.
use Rattle.std.specs.Prelude.{ℕ, ◌&&◌, not, Bool, if◌then◌else◌, List, [], ◌∷◌, filter, Option, Some, None, bytes_eq}
use Rattle.std.specs.List.{list_any}

-- whether the one file imports the other, straight or through others
abbrev pub Wins : Type 0
Wins = ℕ → ℕ → Bool

abbrev pub or_earlier : {A : Type 0} → ℕ × A → Bool → Option (ℕ × A) → Option (ℕ × A)
or_earlier x is_it (Some y) = Some y
or_earlier x is_it None = if is_it then Some x else None

module _ {A : Type 0} (name : A → List ℕ) where
  abbrev pub has_name : List ℕ → ℕ × A → Bool
  has_name q x = bytes_eq (name x.1) q

  -- whether one of them has the name and stands in a file that imports this one
  abbrev pub is_beaten : Wins → List (ℕ × A) → ℕ × A → Bool
  is_beaten wins xs x = list_any (λ y. has_name (name x.1) y && wins y.0 x.0) xs

  -- those that no other one beats
  abbrev pub unbeaten : Wins → List (ℕ × A) → List (ℕ × A)
  unbeaten wins xs = filter (λ x. not (is_beaten wins xs x)) xs

  -- the last of each name
  abbrev pub last_of_each : List (ℕ × A) → List (ℕ × A)
  last_of_each [] = []
  last_of_each (x ∷ xs) = if list_any (has_name (name x.1)) xs then last_of_each xs else x ∷ last_of_each xs

  -- those that stand: of each name the last one that no other one beats
  abbrev pub standing : Wins → List (ℕ × A) → List (ℕ × A)
  standing wins xs = last_of_each (unbeaten wins xs)

  -- the last one of that name
  abbrev pub named : List ℕ → List (ℕ × A) → Option (ℕ × A)
  named q [] = None
  named q (x ∷ xs) = or_earlier x (has_name q x) (named q xs)
