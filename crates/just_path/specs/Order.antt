-- Order, prefixes and suffixes of component lists.
use Rattle.std.specs.Prelude.{ℕ, ◌==◌, Bool, true, false, ◌&&◌, List, [], ◌∷◌, ◌++◌, reverse}
use Rattle.std.specs.Str.{bytes_eq}
use Rattle.std.specs.declared.cmp.Ordering.{Ordering}
use Rattle.std.specs.Ordering.{nat_cmp, on, then_cmp}
use Rattle.std.specs.Cmp.Lexicographic.{slice_cmp}
use Rattle.std.specs.Hash.{HashWrites}
use Rattle.std.specs.Hash as fed
use Rattle.std.specs.List.{flat_map}
use Rattle.just_path.specs.Comps.{Comp, prefix, root, current, parent, normal, comp_text, comps}

-- the rank of a component's kind
abbrev pub rank : Comp → ℕ
rank (prefix t) = 0
rank root = 1
rank current = 2
rank parent = 3
rank (normal t) = 4

-- components are ordered by kind, those of one kind by their bytes
abbrev pub comp_cmp : Comp → Comp → Ordering
comp_cmp = then_cmp (on rank nat_cmp) (on comp_text (slice_cmp nat_cmp))

-- whether two components are the same
abbrev pub comp_eq : Comp → Comp → Bool
comp_eq c d = (rank c == rank d) && bytes_eq (comp_text c) (comp_text d)

-- paths are ordered as their component lists, item by item
abbrev pub path_cmp : List ℕ → List ℕ → Ordering
path_cmp a b = slice_cmp comp_cmp (comps a) (comps b)

-- whether the list begins with those components
abbrev pub begins_with : List Comp → List Comp → Bool
begins_with cs [] = true
begins_with [] (d ∷ ds) = false
begins_with (c ∷ cs) (d ∷ ds) = comp_eq c d && begins_with cs ds

-- whether it ends with them
abbrev pub ends_with : List Comp → List Comp → Bool
ends_with cs ds = begins_with (reverse cs) (reverse ds)

-- what a component writes to a hasher, and what a path does
abbrev pub comp_hash : Comp → HashWrites
comp_hash c = fed.u8 (rank c) ++ fed.str (comp_text c)

-- what a path writes to one: what its components do, in order
abbrev pub path_hash : List ℕ → HashWrites
path_hash t = flat_map comp_hash (comps t)
