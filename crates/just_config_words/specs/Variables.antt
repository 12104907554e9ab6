-- The variables that fill what the words left out.
use Rattle.std.specs.Prelude.{ℕ, if◌then◌else◌, List, [], ◌∷◌, ◌++◌, ◌≡◌, ◌≤◌, Option, Some, None, length, take}
use denote.Ref.{Bor}
use Rattle.just_path_text.specs.Environ.{value_of, or_else}
use Rattle.just_config_words.specs.declared.entry.Kind.{Kind}
use Rattle.just_config_words.specs.declared.entry.Kind.TheVariants as kind
use Rattle.just_config_words.specs.declared.occurrence.Occurrence.{Occurrence}
use Rattle.just_config_words.specs.Table.{TableRow, table}
use Rattle.just_config_words.specs.Forms.{is_in_form, gives}
use Rattle.just_config_words.specs.Occurrences.{is_given}

-- names and their values, in order
abbrev pub Pairs : Type 0
Pairs = List (List ℕ × List ℕ)

-- the text of the variable of a row whose option isn't given, where there is one
abbrev pub text_for : Pairs → List Occurrence → TableRow → Option (List ℕ)
text_for environ given r = elim r.variable [ None ↦ None | Some v ↦ if is_given r.option.name given then None else value_of v environ ]

-- the name of a row's variable
abbrev pub variable_name : TableRow → List ℕ
variable_name r = elim r.variable [ None ↦ [] | Some v ↦ v ]

-- the row's variable, where its text isn't in the form
abbrev pub ill_variable : Pairs → List Occurrence → TableRow → Option (List ℕ)
ill_variable environ given r = elim (text_for environ given r) [ None ↦ None | Some t ↦ if is_in_form r.option.form t then None else Some (variable_name r) ]

-- what a variable's text is to its option: a value, or nothing for a flag
abbrev pub carried : Kind → List ℕ → List (List ℕ)
carried kind.Flag t = []
carried _ t = t ∷ []

-- the option that the row's variable gives
abbrev pub from_variable : Pairs → List Occurrence → TableRow → List Occurrence
from_variable environ given r =
    elim (text_for environ given r) [
      | None ↦ []
      | Some t ↦ if gives r.option.form t then record { option = r.option; word = variable_name r; values = carried r.option.kind t } ∷ [] else []
    ]

-- the first variable of some rows whose text isn't in the form
abbrev pub first_ill : Pairs → List Occurrence → List TableRow → Option (List ℕ)
first_ill environ given [] = None
first_ill environ given (r ∷ rs) = or_else (ill_variable environ given r) (first_ill environ given rs)

-- the options that the variables of some rows give
abbrev pub from_variables : Pairs → List Occurrence → List TableRow → List Occurrence
from_variables environ given [] = []
from_variables environ given (r ∷ rs) = from_variable environ given r ++ from_variables environ given rs

-- the options that are given, and those that variables fill in
abbrev pub filled : Pairs → List Occurrence → List Occurrence
filled environ given = given ++ from_variables environ given table

-- what filling some options comes to: all of them; or the first variable whose text isn't in the form
abbrev pub FillsTo : Pairs → List Occurrence → List Occurrence → Option (Bor (List ℕ)) → Type 0
FillsTo environ given all None = (first_ill environ given table ≡ None) × (all ≡ filled environ given)
FillsTo environ given all (Some v) = first_ill environ given table ≡ Some v.now

-- the options of the words stay in front
pub record IsFilled (environ : Pairs) (given all : List Occurrence) (r : Option (Bor (List ℕ))) : Type 0 where
  pub words : take (length given) all ≡ given
  pub within : length given ≤ length all
  pub fills : FillsTo environ given all r
