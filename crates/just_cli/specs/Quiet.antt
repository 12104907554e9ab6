-- Whether the words ask for quiet, and which errors are told then.
use Rattle.std.specs.Prelude.{ℕ, ◌≡◌, ◌⊎◌, ◌&&◌, ◌||◌, not, Bool, false, List, Option, Ok, Err}
use Rattle.just_path_text.specs.declared.environ.Environ.{Environ}
use Rattle.just_host_record.specs.World.{World}
use Rattle.just_config_words.specs.declared.arguments.Arguments.{Arguments}
use Rattle.just_config_words.specs.declared.words.Read.TheVariants as read
use Rattle.just_config_words.specs.Words.{Means}
use Rattle.just_exec.specs.Codes.{prints, prints_always}
use Rattle.just_exec.specs.declared.error.Error.{Error}
use Rattle.just_exec.specs.declared.error.Error.TheVariants as error
use Rattle.just_cli.specs.Asked.{EnvironGiven}
use Rattle.just_cli.specs.Words.{ReadsWords}

-- whether an error is told, where the words ask for quiet or don't
abbrev pub tells : Bool → Error → Bool
tells quiet e = prints e && (prints_always e || not quiet)

-- over a host that tells this world, if it tells one, the words of a run or of a command ask for quiet, or don't
pub record AsksQuiet (words : List (List ℕ)) (told : Option World) (quiet : Bool) : Type 0 where
  pub environ : Environ
  pub arguments : Arguments
  pub given : EnvironGiven told (Ok environ)
  pub means : Means words environ.pairs (Ok (read.Go arguments))
  pub quiet_is : quiet ≡ arguments.quiet

-- over such a host the error comes before the words are read: the environment isn't there, or the
-- words are faulty; or memory is wanting
abbrev pub ComesFirst : List (List ℕ) → Option World → Error → Type 0
ComesFirst words told e =
    (e ≡ error.NoMemory) ⊎ (EnvironGiven told (Err e) ⊎ ((environ : Environ) × EnvironGiven told (Ok environ) × ReadsWords (record { words = words; environ = environ }) (Err e)))

-- Over such a host the words of a run that is refused by that error ask for quiet, or don't. An error that comes before the words are
-- read is told as where they don't.
pub data AskQuiet (words : List (List ℕ)) (told : Option World) (quiet : Bool) (e : Error) : Type 0 where
  as_read : (environ : Environ) (a : Arguments) → EnvironGiven told (Ok environ) → Means words environ.pairs (Ok (read.Go a)) → quiet ≡ a.quiet → AskQuiet words told quiet e
  unread : quiet ≡ false → ComesFirst words told e → AskQuiet words told quiet e
