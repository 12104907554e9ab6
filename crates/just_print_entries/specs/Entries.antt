-- The lines of a listing: signatures, what is said of them, and other names.
use Rattle.std.specs.Prelude.{ℕ, ◌-◌, Bool, false, not, ◌&&◌, ◌||◌, ◌==◌, nat_lt, if◌then◌else◌, List, [], ◌∷◌, ◌++◌, chars, codes}
use Rattle.std.specs.List.{flat_map, list_any}
use Rattle.unicode_width.specs.Width.{str_width}
use Rattle.just_config_words.specs.Cuts.{parts}
use Rattle.just_print.specs.Printed.{newline, separated}
use Rattle.just_print_lists.specs.Blanks.{blanks}
use Rattle.just_print_lists.specs.Groups.{is_nil}

-- the columns that a text takes
unfoldable pub width : List ℕ → ℕ
width text = str_width false (chars text)

-- a signature wider than 50
abbrev pub is_wide : List ℕ → Bool
is_wide signature = nat_lt 50 (width signature)

-- a doc of several lines
abbrev pub has_lines : List ℕ → Bool
has_lines doc = list_any (λ c. c == 10) doc

-- A doc of several lines stands above its entry, and so does the doc of a wide signature. No doc is an empty one.
abbrev pub is_above : List ℕ → List ℕ → Bool
is_above signature doc = has_lines doc || (not (is_nil doc) && is_wide signature)

-- each line of a doc above its entry stands behind `# `
abbrev pub doc_line : List ℕ → List ℕ → List ℕ
doc_line indent line = indent ++ (codes "# " ++ (line ++ newline))

abbrev pub doc_above : List ℕ → List ℕ → List ℕ
doc_above indent doc = flat_map (doc_line indent) (parts 10 doc)

-- a doc behind a signature, where there is one
abbrev pub doc_note : List ℕ → List ℕ
doc_note doc = if is_nil doc then [] else codes " " ++ doc

-- what stands before other names: of one, or of several
unfoldable pub alias_word : Bool → List ℕ
alias_word is_one = if is_one then codes " [alias: " else codes " [aliases: "

-- the other names of a recipe, where there are some
abbrev pub alias_note : List (List ℕ) → List ℕ
alias_note [] = []
alias_note (name ∷ names) = alias_word (is_nil names) ++ (separated (codes ", ") (name ∷ names) ++ codes "]")

-- with alias style left the other names come before the doc
abbrev pub notes : Bool → List ℕ → List (List ℕ) → List ℕ
notes left doc names = if left then alias_note names ++ doc_note doc else doc_note doc ++ alias_note names

-- what stands behind a signature: blanks up to the width, one more, `#`, and the doc and the other names
abbrev pub behind : ℕ → Bool → List ℕ → List ℕ → List (List ℕ) → List ℕ
behind columns left signature doc names =
    if is_nil doc && is_nil names then [] else blanks (columns - width signature) ++ (codes " #" ++ notes left doc names)

-- the line of a signature, with what stands behind it
abbrev pub signature_line : List ℕ → ℕ → Bool → List ℕ → List ℕ → List (List ℕ) → List ℕ
signature_line indent columns left signature doc names = indent ++ (signature ++ (behind columns left signature doc names ++ newline))

-- the lines of an entry
abbrev pub entry_lines : List ℕ → ℕ → Bool → List ℕ → List ℕ → List (List ℕ) → List ℕ
entry_lines indent columns left signature doc names =
    if is_above signature doc then doc_above indent doc ++ signature_line indent columns left signature [] names else signature_line indent columns left signature doc names
