-- What a word says to a recipe that has options.
use Rattle.std.specs.Prelude.{ℕ, Bool, if◌then◌else◌, List, [], ◌∷◌, Option, Some, None, bytes_eq, chars}
use Rattle.std.specs.Option.{option_copied}
use Rattle.just_config_words.specs.Cuts.{holds, before_first, behind_first, behind_sign}
use Rattle.just_eval_words.specs.declared.form.Form.{Form}
use Rattle.just_eval_words.specs.declared.form.Form.TheVariants as form

abbrev pub Word : Type 0
Word = List ℕ

abbrev pub dash : ℕ
dash = 45

abbrev pub equals_sign : ℕ
equals_sign = 61

-- a positional word; `--`; `--NAME` or `--NAME=VALUE`; or the letters of `-abc`
pub data Sort : Type 0 where
  positional : Sort
  dashes : Sort
  long : List ℕ → Option Word → Sort
  letters : List ℕ → Sort

-- what stands behind the `=`, where there is one
abbrev pub assigned : List ℕ → Option Word
assigned text = if holds equals_sign text then Some (behind_first equals_sign text) else None

-- by what stands behind one dash, and what stands behind two
abbrev pub sort_behind : List ℕ → Option (List ℕ) → Sort
sort_behind text None = Sort.letters (chars text)
sort_behind text (Some name) = if bytes_eq name [] then Sort.dashes else Sort.long (before_first equals_sign name) (assigned name)

abbrev pub sort_from : Option (List ℕ) → Sort
sort_from None = Sort.positional
sort_from (Some text) = if bytes_eq text [] then Sort.positional else sort_behind text (behind_sign dash text)

-- the sort of a word; `-` alone is positional
abbrev pub sort : Word → Sort
sort w = sort_from (behind_sign dash w)

-- the sort that was read
abbrev pub sort_of : Form → Sort
sort_of form.Positional = Sort.positional
sort_of form.Dashes = Sort.dashes
sort_of (form.Long name given) = Sort.long name.now (option_copied given)
sort_of (form.Letters text) = Sort.letters (chars text.now)
