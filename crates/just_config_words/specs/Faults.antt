-- What is wrong at a word, and what it gives.
use Rattle.std.specs.Prelude.{ℕ, Bool, true, false, not, ◌||◌, ◌&&◌, if◌then◌else◌, nat_lt, List, [], ◌∷◌, ◌++◌, length, Option, Some, None, codes, bytes_eq}
use Rattle.std.specs.List.{list_any, flat_map}
use Rattle.just_config_words.specs.declared.entry.Values.{Values}
use Rattle.just_config_words.specs.declared.fault.Test.{Test}
use Rattle.just_config_words.specs.declared.fault.Test.TheVariants as test
use Rattle.just_config_words.specs.declared.parsed.Attached.{Attached}
use Rattle.just_config_words.specs.declared.parsed.Attached.TheVariants.{Joined}
use Rattle.just_config_words.specs.declared.parsed.ParsedOption.{ParsedOption}
use Rattle.just_config_words.specs.declared.occurrence.Occurrence.{Occurrence}
use Rattle.just_config_words.specs.declared.usage.UsageKind.{UsageKind}
use Rattle.just_config_words.specs.declared.usage.UsageKind.TheVariants as usage
use Rattle.just_config_words.specs.Forms.{are_in_form}
use Rattle.just_config_words.specs.Kinds as kinds
use Rattle.just_config_words.specs.Parsed.{is_value, takes_any, takes_nothing, is_nothing, least}
use Rattle.just_config_words.specs.Occurrences.{is_given}

-- ---- what is wrong with one option of a word

abbrev pub is_unknown : ParsedOption → Bool
is_unknown m = elim m.option [ None ↦ true | Some e ↦ false ]

-- whether the values are the one value `json`
abbrev pub are_json : List (List ℕ) → Bool
are_json (t ∷ []) = bytes_eq t (codes "json")
are_json _ = false

-- an option that is left out, or the left-out value of `--dump-format`
abbrev pub is_left_out : ParsedOption → Bool
is_left_out m = elim m.option [ None ↦ false | Some e ↦ kinds.is_left_out e.kind || (bytes_eq e.name (codes "dump-format") && are_json m.values) ]

-- whether what is joined to a letter is no value
abbrev pub is_ill_joined : Values → Attached → Bool
is_ill_joined v (Joined t) = not (takes_any v || is_value t)
is_ill_joined v _ = false

-- too few values
abbrev pub lacks_value : ParsedOption → Bool
lacks_value m = elim m.option [ None ↦ false | Some e ↦ is_ill_joined e.values m.attached || nat_lt (length m.values) (least e.values) ]

-- a value where none is taken
abbrev pub has_surplus : ParsedOption → Bool
has_surplus m = elim m.option [ None ↦ false | Some e ↦ takes_nothing e.values && not (is_nothing m.attached) ]

-- a value that isn't in the form
abbrev pub is_ill_formed : ParsedOption → Bool
is_ill_formed m = elim m.option [ None ↦ false | Some e ↦ not (takes_nothing e.values) && not (are_in_form e.form m.values) ]

-- whether it is the option of that name
abbrev pub is_of_option : List ℕ → ParsedOption → Bool
is_of_option name m = elim m.option [ None ↦ false | Some e ↦ bytes_eq e.name name ]

-- whether the option may stand once, and stands in the words before, or among the letters before
abbrev pub is_repeat : List Occurrence → List ParsedOption → ParsedOption → Bool
is_repeat before earlier m = elim m.option [ None ↦ false | Some e ↦ kinds.is_once e.kind && (is_given e.name before || list_any (is_of_option e.name) earlier) ]

abbrev pub has_repeat : List Occurrence → List ParsedOption → List ParsedOption → Bool
has_repeat before earlier [] = false
has_repeat before earlier (m ∷ ms) = is_repeat before earlier m || has_repeat before (earlier ++ m ∷ []) ms

-- ---- what is wrong at a word

-- the fault of a word with these options, behind those before: the first kind of this list that comes at one of its options
abbrev pub fault_of : List Occurrence → List ParsedOption → Option UsageKind
fault_of before ms =
    if list_any is_unknown ms then Some usage.Unknown
    else (if list_any is_left_out ms then Some usage.LeftOut
    else (if list_any lacks_value ms then Some usage.MissingValue
    else (if list_any has_surplus ms then Some usage.UnexpectedValue
    else (if list_any is_ill_formed ms then Some usage.BadValue
    else (if has_repeat before [] ms then Some usage.Repeated
    else None)))))

-- ---- what a word gives

-- the option that a long name or a letter of a word gives
abbrev pub occurrence_in : List ℕ → ParsedOption → List Occurrence
occurrence_in w m = elim m.option [ None ↦ [] | Some e ↦ record { option = e; word = w; values = m.values } ∷ [] ]

-- the options that stand in a word
abbrev pub occurrences : List ℕ → List ParsedOption → List Occurrence
occurrences w ms = flat_map (occurrence_in w) ms

-- whether an option of a word asks for the help, or for the version
abbrev pub asks_for_help : ParsedOption → Bool
asks_for_help m = elim m.option [ None ↦ false | Some e ↦ kinds.is_help e.kind ]

abbrev pub asks_for_version : ParsedOption → Bool
asks_for_version m = elim m.option [ None ↦ false | Some e ↦ kinds.is_version e.kind ]

-- the meaning of a test
abbrev pub test_of : Test → ParsedOption → Bool
test_of test.Unknown = is_unknown
test_of test.LeftOut = is_left_out
test_of test.LacksValue = lacks_value
test_of test.Surplus = has_surplus
test_of test.IllFormed = is_ill_formed
test_of test.Help = asks_for_help
test_of test.Version = asks_for_version
