-- What the words of the command line mean in an environment.
use Rattle.std.specs.Prelude.{ℕ, ◌≡◌, List, Some, None, Result, Ok, Err, ◌⊎◌}
use Rattle.just_config_words.specs.declared.arguments.Arguments.{Arguments}
use Rattle.just_config_words.specs.declared.occurrence.Occurrence.{Occurrence}
use Rattle.just_config_words.specs.declared.usage.Usage.{Usage}
use Rattle.just_config_words.specs.declared.usage.UsageKind.{UsageKind}
use Rattle.just_config_words.specs.declared.usage.UsageKind.TheVariants as usage
use Rattle.just_config_words.specs.declared.words.Read.{Read}
use Rattle.just_config_words.specs.declared.words.Read.TheVariants as read
use Rattle.just_config_words.specs.Table.{table}
use Rattle.just_config_words.specs.Faults.{asks_for_help, asks_for_version}
use Rattle.just_config_words.specs.Front.{AreSplit, IsFaulty, Asks}
use Rattle.just_config_words.specs.Variables.{Pairs, first_ill, filled}
use Rattle.just_config_words.specs.Rules.{conflict, missing}
use Rattle.just_config_words.specs.Arguments.{AreArguments}

-- what is wrong, and the word or the variable at which it is
abbrev pub fault : UsageKind → List ℕ → Usage
fault k w = record { kind = k; word = w }

-- The words are options with their values, and then positional words; variables fill what is left out.
pub data Means (words : List (List ℕ)) (environ : Pairs) : Result Read Usage → Type 0 where
  -- a word has a fault: the first such word, where the help and the version aren't asked for before
  single : (k : UsageKind) (w : List ℕ) → IsFaulty words k w → Means words environ (Err (fault k w))
  help : Asks asks_for_help words → Means words environ (Ok read.Help)
  version : Asks asks_for_version words → Means words environ (Ok read.Version)
  -- the text of a variable isn't in its form: the first one in the order of the table
  variable : (given : List Occurrence) (positional : List (List ℕ)) (v : List ℕ) → AreSplit words given positional
      → first_ill environ given table ≡ Some v → Means words environ (Err (fault usage.BadValue v))
  -- options that don't go together
  conflicts : (given : List Occurrence) (positional : List (List ℕ)) (w : List ℕ) → AreSplit words given positional
      → first_ill environ given table ≡ None → conflict given positional ≡ Some w → Means words environ (Err (fault usage.Conflict w))
  -- an option without one that it needs
  requires_other : (given : List Occurrence) (positional : List (List ℕ)) (w : List ℕ) → AreSplit words given positional
      → first_ill environ given table ≡ None → conflict given positional ≡ None → missing given (filled environ given) ≡ Some w → Means words environ (Err (fault usage.Requires w))
  -- no fault
  sound : (given : List Occurrence) (positional : List (List ℕ)) (a : Arguments) → AreSplit words given positional
      → first_ill environ given table ≡ None → conflict given positional ≡ None → missing given (filled environ given) ≡ None
      → AreArguments (filled environ given) positional a → Means words environ (Ok (read.Go a))

-- an error of these words, or want of memory
abbrev pub IsUsage : List (List ℕ) → Pairs → Usage → Type 0
IsUsage words environ u = (u.kind ≡ usage.NoMemory) ⊎ Means words environ (Err u)

-- both are the same fault; or both ask for the help, or for the version; or both have the arguments of the same options and positional words
abbrev pub IsSame : Result Read Usage → Result Read Usage → Type 0
IsSame (Err u) (Err v) = u ≡ v
IsSame (Ok (read.Go a)) (Ok (read.Go b)) = (given : List Occurrence) × (positional : List (List ℕ)) × AreArguments given positional a × AreArguments given positional b
IsSame (Ok read.Help) (Ok read.Help) = Unit {0}
IsSame (Ok read.Version) (Ok read.Version) = Unit {0}
IsSame _ _ = ⊥

-- the words mean one thing in an environment
abbrev pub MeaningsAgree : Type 0
MeaningsAgree = (words : List (List ℕ)) → (environ : Pairs) → (r s : Result Read Usage) → Means words environ r → Means words environ s → IsSame r s
