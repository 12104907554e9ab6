-- Parts of a path's text: from a component on, and up to a component.
use Rattle.std.specs.Prelude.{◌≡◌, ◌⊎◌, ◌==◌, ℕ, zero, suc, nat_lt, Option, Some, None, List, [], ◌∷◌, ◌++◌, length, take, if◌then◌else◌}
use Rattle.std.specs.List.{flat_map}
use Rattle.just_path.specs.Comps.{Comp, root, current, comps_of_piece, pieces, names, lead_of, comps, is_empty}

-- the text of which these are the pieces
abbrev pub text_of_pieces : List (List ℕ) → List ℕ
text_of_pieces [] = []
text_of_pieces (p ∷ ps) = p ++ flat_map (λ q. 47 ∷ q) ps

-- the pieces up to the last that gives a component, or up to the last but k of these
abbrev pub pieces_upto : ℕ → List (List ℕ) → List (List ℕ)
pieces_upto k [] = []
pieces_upto k (p ∷ ps) = if nat_lt k (length (flat_map comps_of_piece (p ∷ ps))) then p ∷ pieces_upto k ps else []

-- the pieces from the first that gives a component on, or from the one behind the first k of these
abbrev pub pieces_from : ℕ → List (List ℕ) → List (List ℕ)
pieces_from k [] = []
pieces_from zero (p ∷ ps) = if is_empty (comps_of_piece p) then pieces_from zero ps else p ∷ ps
pieces_from (suc k) (p ∷ ps) = if is_empty (comps_of_piece p) then pieces_from (suc k) ps else pieces_from k ps

-- a path's text up to its last component, or up to its last but k: without what stands behind that one
unfoldable pub text_upto : ℕ → List ℕ → List ℕ
text_upto k t = if nat_lt k (length (names t)) then text_of_pieces (pieces_upto k (pieces t)) else (if k == length (names t) then take (length (lead_of t)) t else [])

-- the slice of a text that begins behind its first n names, from the next name to the last, or to the last but k
unfoldable pub name_slice : ℕ → ℕ → List ℕ → List ℕ
name_slice n k t = text_of_pieces (pieces_upto k (pieces_from n (pieces t)))

-- the slice of a text from its component number n to the last, or to the last but k
abbrev pub slice : ℕ → ℕ → List ℕ → List ℕ
slice zero k t = text_upto k t
slice (suc n) k t = name_slice (if is_empty (lead_of t) then suc n else n) k t

-- the parent: none where the path has no component or the root alone; else the text up to the end of the last component but one
abbrev pub parent_of_lead : List Comp → Option (List ℕ)
parent_of_lead (current ∷ cs) = Some []
parent_of_lead _ = None

-- the parent of a path
unfoldable pub parent_of : List ℕ → Option (List ℕ)
parent_of t = if is_empty (names t) then parent_of_lead (lead_of t) else Some (text_upto 1 t)

-- a parent has one component less than the path; one without a parent has none, or the root alone
abbrev pub HasOneLess : List Comp → Option (List ℕ) → Type 0
HasOneLess cs None = (cs ≡ []) ⊎ (cs ≡ root ∷ [])
HasOneLess cs (Some d) = (c : Comp) × (cs ≡ comps d ++ c ∷ [])
