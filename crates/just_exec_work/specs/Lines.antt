-- At which number a line stands in a text.
use Rattle.std.specs.Prelude.{◌≡◌, ℕ, ◌-◌, ◌<◌, false, List, [], ◌∷◌, length, drop, Some, slice_get, ⊤}
use Rattle.std.specs.List.{list_any, slice_split, AllByRecursion}
use Rattle.just_lang_types.specs.declared.node.BodyLine.{BodyLine}
use Rattle.just_exec_work.specs.Cuts.{is_newline}
use Rattle.just_exec_work.specs.Scripts.{Runner, byte_order_mark, numbered}

-- the lines of a text
abbrev pub lines_of : List ℕ → List (List ℕ)
lines_of text = slice_split is_newline text

-- the line's text stands in the text as the line of its number
abbrev pub StandsAtNumber : List ℕ → BodyLine → Type 0
StandsAtNumber text l = slice_get (lines_of text) (l.number - 1) ≡ Some l.text

-- the numbers of lines rise, from above a number on
abbrev pub AreRising : ℕ → List BodyLine → Type 0
AreRising n [] = ⊤
AreRising n (l ∷ ls) = (n < l.number) × AreRising l.number ls

-- the text of a line has no line's end
abbrev pub IsOneLine : BodyLine → Type 0
IsOneLine l = list_any is_newline l.text ≡ false

-- Where the numbers of lines rise from 1 or more, and each text is one line, each line behind those of the shebang stands at its own
-- number in the text behind the byte order mark.
abbrev pub KeepsNumbers : Runner → List BodyLine → List ℕ → Type 0
KeepsNumbers r lines text = AreRising 0 lines → AllByRecursion IsOneLine lines → AllByRecursion (StandsAtNumber (drop (length (byte_order_mark r)) text)) (numbered r lines)
