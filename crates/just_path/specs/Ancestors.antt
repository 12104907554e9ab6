-- A path and its parents.
use Rattle.std.specs.Prelude.{ℕ, zero, suc, ◌+◌, List, [], ◌∷◌, length, Option, Some, None, option_map}
use Rattle.just_path.specs.Path.{text_of}
use Rattle.just_path.specs.Parts.{parent_of}
use Rattle.just_path.specs.declared.ancestors.Utf8Ancestors.{Utf8Ancestors}

-- the first n of a path, its parent, the parent's parent, and so on
abbrev pub first_ancestors : ℕ → Option (List ℕ) → List (List ℕ)
first_ancestors zero o = []
first_ancestors (suc n) None = []
first_ancestors (suc n) (Some t) = t ∷ first_ancestors n (parent_of t)

-- all of them: a parent is shorter than its path, so there are no more than the path has bytes, and one
unfoldable pub ancestors_of : List ℕ → List (List ℕ)
ancestors_of t = first_ancestors (suc (length t)) (Some t)

-- those from an optional path on
abbrev pub ancestors_from : Option (List ℕ) → List (List ℕ)
ancestors_from None = []
ancestors_from (Some t) = ancestors_of t

-- the paths that an iterator over ancestors still gives
abbrev pub ancestors_left : Utf8Ancestors → List (List ℕ)
ancestors_left s = ancestors_from (option_map text_of s.next)

-- a bound on how many come
abbrev pub bound_of : Option (List ℕ) → ℕ
bound_of None = 0
bound_of (Some t) = length t + 1

-- the same of an iterator
abbrev pub ancestors_bound : Utf8Ancestors → ℕ
ancestors_bound s = bound_of (option_map text_of s.next)
