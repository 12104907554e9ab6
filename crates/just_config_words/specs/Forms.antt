-- The forms of values and of variables.
use Rattle.std.specs.Prelude.{ℕ, Bool, true, not, ◌||◌, List, [], ◌∷◌, map, codes, bytes_eq, ◌&&◌, ◌^◌, ◌-◌}
use Rattle.std.specs.Char.{to_ascii_lowercase}
use Rattle.just_config_words.specs.declared.entry.Form.{Form}
use Rattle.just_config_words.specs.declared.entry.Form.TheVariants.{Text, Switch, LooseSwitch, Count, AliasStyle, DumpFormat, EvaluateFormat, Indentation, Jobs, Vectors}
use Rattle.just_lang_read.specs.Decimal.{decimal, is_number_within}

-- whether a text is in the form
abbrev pub is_in_form : Form → List ℕ → Bool
is_in_form Text t = true
is_in_form Switch t = bytes_eq t (codes "true") || bytes_eq t (codes "false") || bytes_eq t []
is_in_form LooseSwitch t = true
is_in_form Count t = is_number_within 0 255 (decimal t)
is_in_form AliasStyle t = bytes_eq t (codes "left") || bytes_eq t (codes "right") || bytes_eq t (codes "separate")
is_in_form DumpFormat t = bytes_eq t (codes "just")
is_in_form EvaluateFormat t = bytes_eq t (codes "just") || bytes_eq t (codes "shell")
is_in_form Indentation t = bytes_eq t (codes "tab") || is_number_within 1 16 (decimal t)
is_in_form Jobs t = is_number_within 1 (2 ^ 64 - 1) (decimal t)
is_in_form Vectors t = is_number_within 1 20000 (decimal t)

abbrev pub small_letters : List ℕ → List ℕ
small_letters t = map to_ascii_lowercase t

-- whether a variable's text means no, in any case of its letters
abbrev pub is_no : List ℕ → Bool
is_no t =
    bytes_eq t [] || bytes_eq (small_letters t) (codes "n") || bytes_eq (small_letters t) (codes "no") || bytes_eq (small_letters t) (codes "f")
    || bytes_eq (small_letters t) (codes "false") || bytes_eq (small_letters t) (codes "off") || bytes_eq (small_letters t) (codes "0")

-- whether a variable of that text gives its option
abbrev pub gives : Form → List ℕ → Bool
gives Switch t = bytes_eq t (codes "true")
gives LooseSwitch t = not (is_no t)
gives _ t = true

-- whether all of the texts are in the form
abbrev pub are_in_form : Form → List (List ℕ) → Bool
are_in_form f [] = true
are_in_form f (t ∷ ts) = is_in_form f t && are_in_form f ts
