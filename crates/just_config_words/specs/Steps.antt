-- What the parts of the reader of words answer.
use Rattle.std.specs.Prelude.{ℕ, true, false, ◌≡◌, List, ◌∷◌, ◌++◌, Option, Some, None, Result, Ok, Err, ◌⊎◌}
use Rattle.std.specs.List.{list_any}
use denote.Ref.{Bor}
use Rattle.just_config_words.specs.declared.occurrence.Occurrence.{Occurrence}
use Rattle.just_config_words.specs.declared.front.Step.{Step}
use Rattle.just_config_words.specs.declared.front.Step.TheVariants as step
use Rattle.just_config_words.specs.declared.front.Next.{Next}
use Rattle.just_config_words.specs.declared.front.Next.TheVariants as next
use Rattle.just_config_words.specs.declared.front.Front.{Front}
use Rattle.just_config_words.specs.declared.front.Front.TheVariants as front
use Rattle.just_config_words.specs.declared.usage.Usage.{Usage}
use Rattle.just_config_words.specs.declared.usage.UsageKind.TheVariants as usage
use Rattle.just_config_words.specs.declared.words.Read.{Read}
use Rattle.just_config_words.specs.declared.words.Read.TheVariants as read
use Rattle.just_config_words.specs.Arguments.{AreArguments}
use Rattle.just_config_words.specs.Rules.{conflict, missing}
use Rattle.just_config_words.specs.Words.{fault}
use Rattle.just_config_words.specs.Parsed.{parsed_options, words_taken}
use Rattle.just_config_words.specs.Faults.{fault_of, occurrences, asks_for_help, asks_for_version}
use Rattle.just_config_words.specs.Front.{AreSplit, IsFaulty, Asks, has_options, is_question, positional_in}

-- what a word comes to, behind some options and in front of some words, and the options behind it
abbrev pub IsStep : List Occurrence → List ℕ → List (List ℕ) → List Occurrence → Step → Type 0
IsStep given w behind after (step.Taken n) =
    (fault_of given (parsed_options w behind) ≡ None) × (is_question (parsed_options w behind) ≡ false) × (after ≡ given ++ occurrences w (parsed_options w behind)) × (n ≡ words_taken (parsed_options w behind))
IsStep given w behind after (step.Fault kind) = fault_of given (parsed_options w behind) ≡ Some kind
IsStep given w behind after step.Help = (fault_of given (parsed_options w behind) ≡ None) × (list_any asks_for_help (parsed_options w behind) ≡ true)
IsStep given w behind after step.Version = (fault_of given (parsed_options w behind) ≡ None) × (list_any asks_for_version (parsed_options w behind) ≡ true)

-- what stands next among words: the end of the options and the positional words, or a word with options
abbrev pub IsNextWord : List (List ℕ) → Next → Type 0
IsNextWord rest (next.Positional ps) = positional_in rest ≡ Some ps.now
IsNextWord rest (next.Word w behind) = (rest ≡ w.now ∷ behind.now) × (has_options w.now ≡ true)

-- what the words come to
abbrev pub IsFront : List (List ℕ) → Front → Type 0
IsFront words (front.Split given positional) = AreSplit words given.items positional.now
IsFront words (front.Fault kind w) = IsFaulty words kind w.now
IsFront words front.Help = Asks asks_for_help words
IsFront words front.Version = Asks asks_for_version words

-- an option conflicts with another, or with the positional words, at this word
abbrev pub IsConflict : List Occurrence → List (List ℕ) → Usage → Type 0
IsConflict given positional u = (w : List ℕ) × (conflict given positional ≡ Some w) × (u ≡ fault usage.Conflict w)

-- an option lacks one that it needs, at this word
abbrev pub IsMissing : List Occurrence → List Occurrence → Usage → Type 0
IsMissing given filled u = (w : List ℕ) × (missing given filled ≡ Some w) × (u ≡ fault usage.Requires w)

-- options and positional words mean these arguments; the help and the version were asked for before
abbrev pub MeanArguments : List Occurrence → List (List ℕ) → Read → Type 0
MeanArguments filled positional (read.Go a) = AreArguments filled positional a
MeanArguments filled positional read.Help = ⊥
MeanArguments filled positional read.Version = ⊥

-- what options mean, with what variables fill in and the positional words
abbrev pub IsJudged : List Occurrence → List Occurrence → List (List ℕ) → Result Read Usage → Type 0
IsJudged given filled positional (Ok r) = (conflict given positional ≡ None) × (missing given filled ≡ None) × MeanArguments filled positional r
IsJudged given filled positional (Err u) = IsConflict given positional u ⊎ ((conflict given positional ≡ None) × IsMissing given filled u)

-- what options mean where a variable's text isn't in its form, or none
abbrev pub IsOutcome : Option (Bor (List ℕ)) → List Occurrence → List Occurrence → List (List ℕ) → Result Read Usage → Type 0
IsOutcome None given filled positional r = IsJudged given filled positional r
IsOutcome (Some v) given filled positional r = r ≡ Err (fault usage.BadValue v.now)
