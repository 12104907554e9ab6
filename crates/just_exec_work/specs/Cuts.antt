-- What a text is cut into at some of its characters.
use Rattle.std.specs.Prelude.{ℕ, Bool, ◌==◌, ◌||◌, if◌then◌else◌, List, [], ◌∷◌, Option, Some, None}
use Rattle.std.specs.List.{list_any}

-- space or tab
abbrev pub is_blank : ℕ → Bool
is_blank c = (c == 32) || (c == 9)

-- a line's end
abbrev pub is_newline : ℕ → Bool
is_newline c = c == 10

-- `/` or `\`
abbrev pub is_separator : ℕ → Bool
is_separator c = (c == 47) || (c == 92)

-- what stands before the first such character; all where there is none
abbrev pub before_first : (ℕ → Bool) → List ℕ → List ℕ
before_first p [] = []
before_first p (c ∷ cs) = if p c then [] else c ∷ before_first p cs

-- what stands behind the first such character, where there is one
abbrev pub behind_first : (ℕ → Bool) → List ℕ → Option (List ℕ)
behind_first p [] = None
behind_first p (c ∷ cs) = if p c then Some cs else behind_first p cs

-- what stands behind the last such character; all where there is none
abbrev pub behind_last : (ℕ → Bool) → List ℕ → List ℕ
behind_last p [] = []
behind_last p (c ∷ cs) = if list_any p cs then behind_last p cs else (if p c then cs else c ∷ cs)

-- the last piece of a path
abbrev pub last_piece : List ℕ → List ℕ
last_piece path = behind_last is_separator path
