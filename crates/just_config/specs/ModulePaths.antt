-- Module paths in words.
use Rattle.std.specs.Prelude.{ℕ, Bool, true, false, ◌&&◌, if◌then◌else◌, List, [], ◌∷◌, ◌++◌, Option, Some, None, chars, encode_utf8}
use Rattle.std.specs.List.{list_all, list_any}
use Rattle.std.specs.Char.{is_whitespace}
use Rattle.just_lang_read.specs.Characters.{begins_name, in_name}
use Rattle.just_config_words.specs.Cuts.{parts}

abbrev pub colon : ℕ
colon = 58

-- whether a whole text is a name
abbrev pub is_name : List ℕ → Bool
is_name [] = false
is_name (c ∷ cs) = begins_name c && list_all in_name cs

-- whether a text holds white space
abbrev pub has_blank : List ℕ → Bool
has_blank t = list_any is_whitespace (chars t)

-- a text, unless it is empty
abbrev pub unless_empty : List ℕ → List (List ℕ)
unless_empty [] = []
unless_empty (c ∷ cs) = (c ∷ cs) ∷ []

-- what stands between the white space of characters, behind the piece so far
abbrev pub pieces_behind : List ℕ → List ℕ → List (List ℕ)
pieces_behind w [] = unless_empty w
pieces_behind w (c ∷ cs) = if is_whitespace c then unless_empty w ++ pieces_behind [] cs else pieces_behind (w ++ encode_utf8 c) cs

-- what stands between the white space of a text
abbrev pub pieces : List ℕ → List (List ℕ)
pieces t = pieces_behind [] (chars t)

abbrev pub put_before : List ℕ → Option (List (List ℕ)) → Option (List (List ℕ))
put_before n None = None
put_before n (Some ns) = Some (n ∷ ns)

-- every other part, where those between are empty; none where one isn't, or where one of them is the last part
abbrev pub outer_parts : List (List ℕ) → Option (List (List ℕ))
outer_parts [] = None
outer_parts (n ∷ []) = Some (n ∷ [])
outer_parts (n ∷ ([] ∷ ns)) = put_before n (outer_parts ns)
outer_parts (n ∷ ((c ∷ cs) ∷ ns)) = None

-- what `::` joins in one word, which has no other colon
abbrev pub in_one_word : List ℕ → Option (List (List ℕ))
in_one_word w = outer_parts (parts colon w)

abbrev pub in_pieces : List (List ℕ) → Option (List (List ℕ))
in_pieces [] = Some []
in_pieces (w ∷ []) = in_one_word w
in_pieces (w ∷ (x ∷ ws)) = Some (w ∷ (x ∷ ws))

-- what words are joined of: one word at each `::`, one with white space at that first; several words are each a part
abbrev pub components_of : List (List ℕ) → Option (List (List ℕ))
components_of [] = Some []
components_of (w ∷ []) = if has_blank w then in_pieces (pieces w) else in_one_word w
components_of (w ∷ (x ∷ ws)) = Some (w ∷ (x ∷ ws))

abbrev pub all_names : List (List ℕ) → Bool
all_names [] = true
all_names (t ∷ ts) = is_name t && all_names ts

-- the names of a module path, where each part is a name
abbrev pub names_only : Option (List (List ℕ)) → Option (List (List ℕ))
names_only None = None
names_only (Some ns) = if all_names ns then Some ns else None

abbrev pub module_path : List (List ℕ) → Option (List (List ℕ))
module_path ws = names_only (components_of ws)
