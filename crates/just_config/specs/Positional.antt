-- What positional words are: overrides, then a search folder, then arguments.
use Rattle.std.specs.Prelude.{ℕ, Bool, ◌||◌, if◌then◌else◌, List, [], ◌∷◌, ◌++◌, Option, Some, None, codes, bytes_eq}
use Rattle.just_config_words.specs.Cuts.{holds, before_first, behind_first}
use Rattle.just_config.specs.Cuts.{up_to_last, behind_last}
use Rattle.just_config.specs.ModulePaths.{unless_empty}
use Rattle.just_config.specs.declared.positional.Positional.{Positional}

abbrev pub equals_sign : ℕ
equals_sign = 61

abbrev pub slash : ℕ
slash = 47

-- the overrides: each word in front that holds `=`, parted at the first one
abbrev pub overrides_in : List (List ℕ) → List (List ℕ × List ℕ)
overrides_in [] = []
overrides_in (w ∷ ws) = if holds equals_sign w then (before_first equals_sign w, behind_first equals_sign w) ∷ overrides_in ws else []

-- the words from the first one on that holds no `=`
abbrev pub behind_overrides : List (List ℕ) → List (List ℕ)
behind_overrides [] = []
behind_overrides (w ∷ ws) = if holds equals_sign w then behind_overrides ws else w ∷ ws

abbrev pub is_dots : List ℕ → Bool
is_dots w = bytes_eq w (codes ".") || bytes_eq w (codes "..")

-- the search folder that the first word behind the overrides gives: `.`, `..`, or what stands up to its last `/`
abbrev pub folder_of : List ℕ → Option (List ℕ)
folder_of w = if is_dots w then Some w else (if holds slash w then Some (up_to_last slash w) else None)

-- the argument that it gives: what stands behind its last `/`, where that isn't empty
abbrev pub argument_of : List ℕ → List (List ℕ)
argument_of w = if is_dots w then [] else (if holds slash w then unless_empty (behind_last slash w) else w ∷ [])

abbrev pub folder_in : List (List ℕ) → Option (List ℕ)
folder_in [] = None
folder_in (w ∷ ws) = folder_of w

-- the arguments of words: that of the first one, then the others
abbrev pub arguments_in : List (List ℕ) → List (List ℕ)
arguments_in [] = []
arguments_in (w ∷ ws) = argument_of w ++ ws

abbrev pub positional_of : List (List ℕ) → Positional
positional_of ws = record {
  overrides = overrides_in ws;
  search_directory = folder_in (behind_overrides ws);
  arguments = arguments_in (behind_overrides ws);
}
