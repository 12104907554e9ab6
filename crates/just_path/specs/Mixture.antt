-- Items that are taken from the front and the back of an iterator in any mixture, and the slice that is left between.
use Rattle.std.specs.Prelude.{◌≡◌, ℕ, suc, Bool, true, false, List, [], ◌∷◌, ◌++◌, length, Option, Some, None}

-- the next item from one end, where there was one
pub data Move (A : Type 0) : Type 0 where
  front : Option A → Move A
  back : Option A → Move A

-- one move takes the first or the last item; it takes none only where none was left, and then none is left
abbrev pub Takes : {A : Type 0} → List A → Move A → List A → Type 0
Takes before (front None) after = (before ≡ []) × (after ≡ [])
Takes before (front (Some c)) after = before ≡ c ∷ after
Takes before (back None) after = (before ≡ []) × (after ≡ [])
Takes before (back (Some c)) after = before ≡ after ++ c ∷ []

-- the slices of what is left, each known by how many items it leaves out in front and at the end: a move leaves one more out
abbrev pub Shortens : {A : Type 0} → (ℕ → ℕ → List ℕ) → Move A → (ℕ → ℕ → List ℕ) → Type 0
Shortens before (front None) after = (n k : ℕ) → before n k ≡ after n k
Shortens before (front (Some c)) after = (n k : ℕ) → before (suc n) k ≡ after n k
Shortens before (back None) after = (n k : ℕ) → before n k ≡ after n k
Shortens before (back (Some c)) after = (n k : ℕ) → before n (suc k) ≡ after n k

-- one move of an iterator, seen by the items and the slices that are left
pub record Moves {S A : Type 0} (items : S → List A) (slices : S → ℕ → ℕ → List ℕ) (before : S) (move : Move A) (after : S) : Type 0 where
  pub takes : Takes (items before) move (items after)
  pub shortens : Shortens (slices before) move (slices after)

-- moves, one behind the other
abbrev pub Walks : {S A : Type 0} → (S → List A) → (S → ℕ → ℕ → List ℕ) → S → List (Move A) → S → Type 0
Walks items slices before [] after = before ≡ after
Walks {S} items slices before (m ∷ ms) after = (mid : S) × Moves items slices before m mid × Walks items slices mid ms after

-- what came from the front, in order
abbrev pub from_front : {A : Type 0} → List (Move A) → List A
from_front [] = []
from_front (front None ∷ ms) = from_front ms
from_front (front (Some c) ∷ ms) = c ∷ from_front ms
from_front (back o ∷ ms) = from_front ms

-- what came from the back, the last first
abbrev pub from_back : {A : Type 0} → List (Move A) → List A
from_back [] = []
from_back (front o ∷ ms) = from_back ms
from_back (back None ∷ ms) = from_back ms
from_back (back (Some c) ∷ ms) = from_back ms ++ c ∷ []

-- whether no move gave an item
abbrev pub gives_none : {A : Type 0} → List (Move A) → Bool
gives_none [] = true
gives_none (front None ∷ ms) = gives_none ms
gives_none (front (Some c) ∷ ms) = false
gives_none (back None ∷ ms) = gives_none ms
gives_none (back (Some c) ∷ ms) = false

-- whether no item came behind a move that gave none
abbrev pub ends_for_good : {A : Type 0} → List (Move A) → Bool
ends_for_good [] = true
ends_for_good (front None ∷ ms) = gives_none ms
ends_for_good (front (Some c) ∷ ms) = ends_for_good ms
ends_for_good (back None ∷ ms) = gives_none ms
ends_for_good (back (Some c) ∷ ms) = ends_for_good ms

-- the law of such moves over a list and its slices: what came and what is left between is the list, each item once; the
-- slice that is left is exactly the one between what came; behind the end nothing comes any more
pub record IsWalkOver {A : Type 0} (whole : List A) (slices : ℕ → ℕ → List ℕ) (moves : List (Move A)) (items : List A) (slice : List ℕ) : Type 0 where
  pub once : whole ≡ from_front moves ++ (items ++ from_back moves)
  pub exact : slice ≡ slices (length (from_front moves)) (length (from_back moves))
  pub for_good : ends_for_good moves ≡ true
