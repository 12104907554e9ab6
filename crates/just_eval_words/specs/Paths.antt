-- Paths as texts: names with `::` between them.
use Rattle.std.specs.Prelude.{ℕ, ◌==◌, Bool, true, false, if◌then◌else◌, List, [], ◌∷◌, ◌++◌, codes}

abbrev pub Word : Type 0
Word = List ℕ

abbrev pub colon : ℕ
colon = 58

-- names, each behind `::`
abbrev pub further : List (List ℕ) → List ℕ
further [] = []
further (name ∷ names) = codes "::" ++ (name ++ further names)

-- names with `::` between them
abbrev pub joined_path : List (List ℕ) → List ℕ
joined_path [] = []
joined_path (name ∷ names) = name ++ further names

-- a character in front of the first part
abbrev pub put_in_front : ℕ → List Word → List Word
put_in_front c [] = (c ∷ []) ∷ []
put_in_front c (part ∷ others) = (c ∷ part) ∷ others

-- the parts of a word between its `::`, where a colon that may begin one stands in front or none
abbrev pub parts_behind : Bool → Word → List Word
parts_behind false [] = [] ∷ []
parts_behind true [] = (colon ∷ []) ∷ []
parts_behind false (c ∷ cs) = if c == colon then parts_behind true cs else put_in_front c (parts_behind false cs)
parts_behind true (c ∷ cs) = if c == colon then [] ∷ parts_behind false cs else put_in_front colon (put_in_front c (parts_behind false cs))

-- the parts of a word between its `::`
abbrev pub parts : Word → List Word
parts w = parts_behind false w
