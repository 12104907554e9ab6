-- What stands before the lines of bodies.
use Rattle.std.specs.Prelude.{ℕ, nat_le, ◌&&◌, if◌then◌else◌, List, [], ◌∷◌, Option, Some, None, bytes_eq, codes}
use Rattle.std.specs.Option.{option_and_then, unwrap_or}
use Rattle.just_lang_read.specs.Decimal.{decimal}
use Rattle.just_print_lists.specs.Blanks.{blanks}

-- so many blanks, from 1 to 16
abbrev pub some_blanks : ℕ → Option (List ℕ)
some_blanks n = if nat_le 1 n && nat_le n 16 then Some (blanks n) else None

-- the text that a word stands for: `tab`, or blanks by their number
abbrev pub indentation_of : List ℕ → Option (List ℕ)
indentation_of word = if bytes_eq word (codes "tab") then Some (9 ∷ []) else option_and_then some_blanks (decimal word)

-- the one that is given, else the one that is set, else four blanks; a word that stands for none counts as not there
abbrev pub chosen_indentation : Option (List ℕ) → Option (List ℕ) → List ℕ
chosen_indentation given set = unwrap_or (option_and_then indentation_of given) (unwrap_or (option_and_then indentation_of set) (blanks 4))
