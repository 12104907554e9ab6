-- Texts without the indentation that their lines share.
use Rattle.std.specs.Prelude.{ℕ, ◌+◌, Bool, true, false, not, ◌&&◌, ◌||◌, ◌==◌, if◌then◌else◌, List, [], ◌∷◌, ◌++◌, length, drop, Option, Some, None}
use Rattle.std.specs.List.{list_all}
use Rattle.just_lang_read.specs.Place.{run}
use Rattle.just_lang_read.specs.Characters.{is_blank}

abbrev pub joined_line : ℕ → List (List ℕ) → List (List ℕ)
joined_line c [] = (c ∷ []) ∷ []
joined_line c (line ∷ lines) = (c ∷ line) ∷ lines

-- the lines of a text, each with the line feed that ends it
abbrev pub lines_of : List ℕ → List (List ℕ)
lines_of [] = []
lines_of (c ∷ rest) = if c == 10 then (c ∷ []) ∷ lines_of rest else joined_line c (lines_of rest)

-- whether a line holds nothing but blanks, carriage returns and its line feed
abbrev pub is_blank_text : List ℕ → Bool
is_blank_text line = list_all (λ c. is_blank c || (c == 13 || c == 10)) line

-- the longest front that two texts share
abbrev pub common : List ℕ → List ℕ → List ℕ
common [] other = []
common (c ∷ rest) [] = []
common (c ∷ rest) (d ∷ other) = if c == d then c ∷ common rest other else []

-- what a line shares with those before it, of which these blanks are shared
abbrev pub meet : Option (List ℕ) → List ℕ → List ℕ
meet None blanks = blanks
meet (Some before) blanks = common before blanks

abbrev pub shared_with : Option (List ℕ) → List ℕ → Option (List ℕ)
shared_with before line = if is_blank_text line then before else Some (meet before (run is_blank line))

abbrev pub shared_from : Option (List ℕ) → List (List ℕ) → Option (List ℕ)
shared_from before [] = before
shared_from before (line ∷ lines) = shared_from (shared_with before line) lines

-- the longest front of blanks that all lines share which aren't blank; none where all are
abbrev pub shared : List (List ℕ) → Option (List ℕ)
shared lines = shared_from None lines

abbrev pub count_of : Option (List ℕ) → ℕ
count_of None = 0
count_of (Some blanks) = length blanks

abbrev pub has_more : List (List ℕ) → Bool
has_more [] = false
has_more (line ∷ lines) = true

-- what a line gives without so many characters in front: a blank one a line feed, where it is neither the first nor the last
abbrev pub line_gives : ℕ → Bool → List ℕ → List ℕ
line_gives count inner line = if is_blank_text line then (if inner then 10 ∷ [] else []) else drop count line

abbrev pub given : ℕ → Bool → List (List ℕ) → List ℕ
given count is_first [] = []
given count is_first (line ∷ lines) = line_gives count (not is_first && has_more lines) line ++ given count false lines

-- a text without the indentation that its lines share
abbrev pub unindented : List ℕ → List ℕ
unindented text = given (count_of (shared (lines_of text))) true (lines_of text)

-- how many characters the first line has
abbrev pub first_length : List ℕ → ℕ
first_length [] = 0
first_length (c ∷ rest) = if c == 10 then 1 else first_length rest + 1
