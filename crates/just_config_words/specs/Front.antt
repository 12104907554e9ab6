-- The options in front of the positional words.
use Rattle.std.specs.Prelude.{ℕ, Bool, true, false, not, ◌≡◌, ◌&&◌, ◌||◌, if◌then◌else◌, List, [], ◌∷◌, ◌++◌, drop, Option, Some, None}
use Rattle.std.specs.List.{list_any}
use Rattle.just_config_words.specs.declared.parsed.ParsedOption.{ParsedOption}
use Rattle.just_config_words.specs.declared.occurrence.Occurrence.{Occurrence}
use Rattle.just_config_words.specs.declared.usage.UsageKind.{UsageKind}
use Rattle.just_config_words.specs.Parsed.{is_value, ends_options, parsed_options, words_taken}
use Rattle.just_config_words.specs.Faults.{fault_of, occurrences, asks_for_help, asks_for_version}

-- whether a word has options: it begins with `-`, and is neither `-` nor `--`
abbrev pub has_options : List ℕ → Bool
has_options w = not (is_value w) && not (ends_options w)

-- the positional words, where no word with options stands next
abbrev pub positional_in : List (List ℕ) → Option (List (List ℕ))
positional_in [] = Some []
positional_in (w ∷ ws) = if is_value w then Some (w ∷ ws) else (if ends_options w then Some ws else None)

-- whether a word asks for the help or the version
abbrev pub is_question : List ParsedOption → Bool
is_question ms = list_any asks_for_help ms || list_any asks_for_version ms

-- the first words are these options with their values, each word without a fault behind those before it, and the rest follows them
pub data AreOptions (words : List (List ℕ)) : List Occurrence → List (List ℕ) → Type 0 where
  none : (given : List Occurrence) (rest : List (List ℕ)) → given ≡ [] → rest ≡ words → AreOptions words given rest
  more : (before : List Occurrence) (w : List ℕ) (ws : List (List ℕ)) (given : List Occurrence) (rest : List (List ℕ)) → AreOptions words before (w ∷ ws)
      → has_options w ≡ true → fault_of before (parsed_options w ws) ≡ None → is_question (parsed_options w ws) ≡ false
      → given ≡ before ++ occurrences w (parsed_options w ws) → rest ≡ drop (words_taken (parsed_options w ws)) ws → AreOptions words given rest

-- the words are these options, and then these positional words
pub data AreSplit (words : List (List ℕ)) (given : List Occurrence) (positional : List (List ℕ)) : Type 0 where
  -- there are no more words
  ended : AreOptions words given [] → positional ≡ [] → AreSplit words given positional
  -- `--` ends the options
  delimited : (w : List ℕ) → AreOptions words given (w ∷ positional) → ends_options w ≡ true → AreSplit words given positional
  -- the first word that isn't an option's ends them, and is positional
  began : (w : List ℕ) (ws : List (List ℕ)) → AreOptions words given (w ∷ ws) → is_value w ≡ true → positional ≡ w ∷ ws → AreSplit words given positional

-- behind these options stands a word with options
pub record IsNext (words : List (List ℕ)) (given : List Occurrence) (w : List ℕ) (ms : List ParsedOption) : Type 0 where
  pub behind : List (List ℕ)
  pub before : AreOptions words given (w ∷ behind)
  pub has : has_options w ≡ true
  pub are : ms ≡ parsed_options w behind

-- a word has this fault, and no word before it has one, nor asks for the help or the version
pub record IsFaulty (words : List (List ℕ)) (kind : UsageKind) (w : List ℕ) : Type 0 where
  pub given : List Occurrence
  pub ms : List ParsedOption
  pub at : IsNext words given w ms
  pub fault : fault_of given ms ≡ Some kind

-- a word has no fault and such an option, and no word before it has a fault, or asks for the help or the version
pub record Asks (test : ParsedOption → Bool) (words : List (List ℕ)) : Type 0 where
  pub given : List Occurrence
  pub w : List ℕ
  pub ms : List ParsedOption
  pub at : IsNext words given w ms
  pub sound : fault_of given ms ≡ None
  pub asked : list_any test ms ≡ true
