-- A path's file name, and the parts of a file name.
use Rattle.std.specs.Prelude.{ℕ, ◌-◌, ◌==◌, Bool, true, not, ◌&&◌, Option, Some, None, List, [], ◌∷◌, ◌++◌, length, take, if◌then◌else◌, option_map, option_and_then, is_some, unwrap_or}
use Rattle.just_path.specs.Path.{pushed}
use Rattle.just_path.specs.Comps.{Comp, normal, comps, is_empty}
use Rattle.just_path.specs.Parts.{text_upto, parent_of}

-- the last component
abbrev pub last_of : List Comp → Option Comp
last_of [] = None
last_of (c ∷ []) = Some c
last_of (c ∷ d ∷ cs) = last_of (d ∷ cs)

-- the text of a name
abbrev pub name_of : Comp → Option (List ℕ)
name_of (normal t) = Some t
name_of _ = None

-- the file name: the last component, where it is a name
abbrev pub file_name_of : List ℕ → Option (List ℕ)
file_name_of t = option_and_then name_of (last_of (comps t))

-- what stands before the last dot of a name and behind it, where it has a dot
abbrev pub put_before : ℕ → List ℕ → Option (List ℕ × List ℕ) → Option (List ℕ × List ℕ)
put_before b bs None = if b == 46 then Some ([], bs) else None
put_before b bs (Some s) = Some (b ∷ s.0, s.1)

-- a text, parted at its last dot
abbrev pub parts_at_last_dot : List ℕ → Option (List ℕ × List ℕ)
parts_at_last_dot [] = None
parts_at_last_dot (b ∷ bs) = put_before b bs (parts_at_last_dot bs)

-- the same, where something stands before that dot
abbrev pub unless_first : Option (List ℕ × List ℕ) → Option (List ℕ × List ℕ)
unless_first None = None
unless_first (Some s) = if is_empty s.0 then None else Some s

-- the stem and the extension of a name, where a dot that isn't in front parts them
unfoldable pub name_parts : List ℕ → Option (List ℕ × List ℕ)
name_parts name = unless_first (parts_at_last_dot name)

-- the stem of a name: up to its last dot, the whole where it has none but in front
abbrev pub stem_of : List ℕ → List ℕ
stem_of name = unwrap_or (option_map (λ s. s.0) (name_parts name)) name

-- its extension: what stands behind that dot
abbrev pub extension_of : List ℕ → Option (List ℕ)
extension_of name = option_map (λ s. s.1) (name_parts name)

-- what stands before the first dot
abbrev pub before_dot : List ℕ → List ℕ
before_dot [] = []
before_dot (b ∷ bs) = if b == 46 then [] else b ∷ before_dot bs

-- its prefix: up to its first dot that isn't in front
abbrev pub prefix_of : List ℕ → List ℕ
prefix_of [] = []
prefix_of (b ∷ bs) = b ∷ before_dot bs

-- a path with another file name: pushed on the parent where the path has a file name, else on the path
abbrev pub with_file_name : List ℕ → List ℕ → List ℕ
with_file_name t name = pushed (if is_some (file_name_of t) then unwrap_or (parent_of t) t else t) name

-- a dot and an extension, nothing for the empty one
abbrev pub dot_and_extension : List ℕ → List ℕ
dot_and_extension [] = []
dot_and_extension (b ∷ bs) = 46 ∷ (b ∷ bs)

-- where the stem of that file name ends in the path's text
abbrev pub stem_end : List ℕ → List ℕ → ℕ
stem_end t name = length (text_upto 0 t) - (length name - length (stem_of name))

-- a path with another extension: cut where the stem ends, then the dot and the extension
abbrev pub with_extension_of : List ℕ → List ℕ → Option (List ℕ) → List ℕ
with_extension_of t ext None = t
with_extension_of t ext (Some name) = take (stem_end t name) t ++ dot_and_extension ext

-- the same, of the path's own file name
abbrev pub with_extension : List ℕ → List ℕ → List ℕ
with_extension t ext = with_extension_of t ext (file_name_of t)

-- whether a text has no `/`
abbrev pub has_no_slash : List ℕ → Bool
has_no_slash [] = true
has_no_slash (b ∷ bs) = not (b == 47) && has_no_slash bs

-- a path with a further extension behind its whole file name; the empty one changes nothing
abbrev pub with_added_extension : List ℕ → List ℕ → List ℕ
with_added_extension t ext = if is_some (file_name_of t) then (if is_empty ext then t else text_upto 0 t ++ dot_and_extension ext) else t
