-- Small texts that other texts are made of.
use Rattle.std.specs.Prelude.{ℕ, zero, suc, length, get_or, ◌==◌, ◌++◌, ◌-◌, ◌^◌, Bool, true, false, List, [], ◌∷◌, codes, decimal, encode_utf8, if◌then◌else◌}

-- a text in backquotes
abbrev pub ticked : List ℕ → List ℕ
ticked t = codes "`" ++ (t ++ codes "`")

-- a noun for so many things
abbrev pub plural : List ℕ → ℕ → List ℕ
plural noun number = if number == 1 then noun else noun ++ codes "s"

-- the noun, with its number in front where that is shown
abbrev pub count_text : Bool → List ℕ → ℕ → List ℕ
count_text true noun number = decimal number ++ (codes " " ++ plural noun number)
count_text false noun number = plural noun number

-- one number, a range, or a range without an end, which ends with the greatest number of 64 bits
abbrev pub range_text : ℕ → ℕ → List ℕ
range_text least greatest =
    if least == greatest then decimal least
    else (if greatest == 2 ^ 64 - 1 then decimal least ++ codes " or more" else decimal least ++ (codes " to " ++ decimal greatest))

-- a character, a blank to be seen: `␠` for a space, `␉` for a tab
abbrev pub seen : ℕ → ℕ
seen c = if c == 32 then 9248 else (if c == 9 then 9225 else c)

-- a text with its blanks to be seen
abbrev pub shown_all : List ℕ → List ℕ
shown_all [] = []
shown_all (c ∷ cs) = encode_utf8 (seen c) ++ shown_all cs

-- what stands before the item at a place, in a list of so many: nothing before the first, the word before the last
abbrev pub before_item : List ℕ → ℕ → ℕ → List ℕ
before_item word count zero = []
before_item word count (suc at) =
    if suc (suc at) == count then (if count == 2 then codes " " else codes ", ") ++ (word ++ codes " ") else codes ", "

-- an item of a list with what stands before it
abbrev pub item_text : List ℕ → List (List ℕ) → ℕ → List ℕ
item_text word items at = before_item word (length items) at ++ ticked (get_or items at [])

-- the items from a place on
abbrev pub items_from : List ℕ → ℕ → ℕ → List (List ℕ) → List ℕ
items_from word count at [] = []
items_from word count at (x ∷ xs) = before_item word count at ++ (ticked x ++ items_from word count (suc at) xs)

-- texts in backquotes: `a`; `a` and `b`; `a`, `b`, and `c`
abbrev pub list_text : List ℕ → List (List ℕ) → List ℕ
list_text word items = items_from word (length items) 0 items
