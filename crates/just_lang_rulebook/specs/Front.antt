-- The texts in front of body lines.
use Rattle.std.specs.Prelude.{ℕ, ◌==◌, Bool, true, false, not, ◌&&◌, if◌then◌else◌, List, [], ◌∷◌, ◌++◌, Option, Some, None, take, length, ◌-◌, slice_get}
use Rattle.std.specs.List.{list_any}
use Rattle.just_lang_read.specs.Characters.{is_blank}
use Rattle.just_lang_syntax.specs.declared.ast.Fragment.{Fragment}
use Rattle.just_lang_syntax.specs.declared.ast.Fragment.TheVariants as fragment
use Rattle.just_lang_syntax.specs.declared.ast.Line.{Line}

abbrev pub drop_blanks : List ℕ → List ℕ
drop_blanks [] = []
drop_blanks (c ∷ cs) = if is_blank c then drop_blanks cs else c ∷ cs

abbrev pub is_backslash : Option ℕ → Bool
is_backslash None = false
is_backslash (Some c) = c == 92

abbrev pub ends_in_backslash : List ℕ → Bool
ends_in_backslash text = is_backslash (slice_get text (length text - 1))

abbrev pub is_text_that_goes_on : Option Fragment → Bool
is_text_that_goes_on None = false
is_text_that_goes_on (Some (fragment.Text text)) = ends_in_backslash text
is_text_that_goes_on (Some (fragment.Value x)) = false

-- whether a line ends in `\`, and so goes on with the next
abbrev pub goes_on : List Fragment → Bool
goes_on fragments = is_text_that_goes_on (slice_get fragments (length fragments - 1))

abbrev pub is_value : Fragment → Bool
is_value (fragment.Text text) = false
is_value (fragment.Value x) = true

-- whether its text up to the first value goes on there too
abbrev pub is_continued : List Fragment → Bool
is_continued fragments = goes_on fragments && not (list_any is_value fragments)

-- the text of a line up to its first value
abbrev pub plain_text : List Fragment → List ℕ
plain_text [] = []
plain_text (fragment.Text text ∷ rest) = text ++ plain_text rest
plain_text (fragment.Value x ∷ rest) = []

-- a text without the `\` at its end, where it goes on
abbrev pub shown : Bool → List ℕ → List ℕ
shown goes_on text = if goes_on then take (length text - 1) text else text

-- what a line gives
abbrev pub piece : Line → List ℕ
piece line = shown (is_continued line.fragments) (plain_text line.fragments)

-- what lines give that continue another: each without the blanks in front, as far as they go on
abbrev pub continued : List Line → List ℕ
continued [] = []
continued (line ∷ lines) = drop_blanks (piece line) ++ (if is_continued line.fragments then continued lines else [])

-- the text of the first line, with the lines that continue it, up to its first value
abbrev pub front : List Line → List ℕ
front [] = []
front (line ∷ lines) = piece line ++ (if is_continued line.fragments then continued lines else [])
