-- The components of a path's text. The text is split once, at its slashes; what stands between two of them is a piece.
use Rattle.std.specs.Prelude.{ℕ, Bool, true, false, ◌||◌, List, [], ◌∷◌, ◌++◌, ◌==◌, if◌then◌else◌}
use Rattle.std.specs.List.{flat_map}
use Rattle.std.specs.Str.{bytes_eq}
use Rattle.just_path.specs.Path.{is_absolute}

-- a component; no text of Unix gives a `prefix`
pub data Comp : Type 0 where
  prefix : List ℕ → Comp
  root : Comp
  current : Comp
  parent : Comp
  normal : List ℕ → Comp

-- the text `.`
abbrev pub dot : List ℕ
dot = 46 ∷ []

-- the text `..`
abbrev pub dots : List ℕ
dots = 46 ∷ 46 ∷ []

-- the text `/`
abbrev pub slash : List ℕ
slash = 47 ∷ []

-- the text of a component
abbrev pub comp_text : Comp → List ℕ
comp_text (prefix t) = t
comp_text root = slash
comp_text current = dot
comp_text parent = dots
comp_text (normal t) = t

-- whether a list has no item
abbrev pub is_empty : {A : Type 0} → List A → Bool
is_empty [] = true
is_empty (x ∷ xs) = false

-- pieces, with a byte put in front of the first
abbrev pub with_first_byte : ℕ → List (List ℕ) → List (List ℕ)
with_first_byte b [] = (b ∷ []) ∷ []
with_first_byte b (p ∷ ps) = (b ∷ p) ∷ ps

-- the pieces of a text, split at each `/`: one more than it has slashes, some of them empty
abbrev pub pieces : List ℕ → List (List ℕ)
pieces [] = [] ∷ []
pieces (b ∷ bs) = if b == 47 then [] ∷ pieces bs else with_first_byte b (pieces bs)

-- the component that a piece gives, if it gives one: an empty piece and `.` give none
abbrev pub comps_of_piece : List ℕ → List Comp
comps_of_piece p = if (is_empty p || bytes_eq p dot) then [] else (if bytes_eq p dots then parent ∷ [] else normal p ∷ [])

-- the components that the pieces of a text give
unfoldable pub names : List ℕ → List Comp
names t = flat_map comps_of_piece (pieces t)

-- whether the first piece is `.`
abbrev pub is_dot_first : List (List ℕ) → Bool
is_dot_first [] = false
is_dot_first (p ∷ ps) = bytes_eq p dot

-- what stands in front of them: the root of an absolute text, or the `.` that a relative one begins with
unfoldable pub lead_of : List ℕ → List Comp
lead_of t = if is_absolute t then root ∷ [] else (if is_dot_first (pieces t) then current ∷ [] else [])

-- the components of a path's text
unfoldable pub comps : List ℕ → List Comp
comps t = lead_of t ++ names t

-- whether a component is a prefix
abbrev pub has_prefix : List Comp → Bool
has_prefix [] = false
has_prefix (prefix t ∷ cs) = true
has_prefix (root ∷ cs) = has_prefix cs
has_prefix (current ∷ cs) = has_prefix cs
has_prefix (parent ∷ cs) = has_prefix cs
has_prefix (normal t ∷ cs) = has_prefix cs

-- the components of a path with another pushed: those of both, one behind the other, but an absolute path replaces what it is
-- pushed on, and a `.` in front of it stays only where it is pushed on nothing
abbrev pub join_comps : List Comp → List Comp → List Comp
join_comps [] ds = ds
join_comps (c ∷ cs) (root ∷ ds) = root ∷ ds
join_comps (c ∷ cs) (current ∷ ds) = (c ∷ cs) ++ ds
join_comps (c ∷ cs) ds = (c ∷ cs) ++ ds
