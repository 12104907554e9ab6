-- The options that are given, as a list, and what it says of one of them.
use Rattle.std.specs.Prelude.{ℕ, Bool, false, ◌||◌, if◌then◌else◌, ◌+◌, List, [], ◌∷◌, ◌++◌, Option, Some, None, bytes_eq}
use Rattle.just_config_words.specs.declared.occurrence.Occurrence.{Occurrence}

-- whether it is an occurrence of the option of that name
abbrev pub is_of : List ℕ → Occurrence → Bool
is_of name o = bytes_eq o.option.name name

-- whether the option is given
abbrev pub is_given : List ℕ → List Occurrence → Bool
is_given name [] = false
is_given name (o ∷ os) = is_of name o || is_given name os

-- how often it is given
abbrev pub times : List ℕ → List Occurrence → ℕ
times name [] = 0
times name (o ∷ os) = (if is_of name o then 1 else 0) + times name os

abbrev pub first_text : List (List ℕ) → Option (List ℕ)
first_text [] = None
first_text (t ∷ ts) = Some t

-- the first value of its first occurrence
abbrev pub value_in : List ℕ → List Occurrence → Option (List ℕ)
value_in name [] = None
value_in name (o ∷ os) = if is_of name o then first_text o.values else value_in name os

-- the values of all its occurrences
abbrev pub values_in : List ℕ → List Occurrence → List (List ℕ)
values_in name [] = []
values_in name (o ∷ os) = (if is_of name o then o.values else []) ++ values_in name os

-- what stands behind its first occurrence; all where there is none
abbrev pub behind_first : List ℕ → List Occurrence → List Occurrence
behind_first name [] = []
behind_first name (o ∷ os) = if is_of name o then os else behind_first name os

abbrev pub behind : List ℕ → List Occurrence → List Occurrence
behind name os = if is_given name os then behind_first name os else os
