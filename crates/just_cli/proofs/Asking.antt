-- Whether the words ask for quiet, as they are read.
use Rattle.std.proofs.Common.{◌≡◌, inl, inr, ℕ, Bool, false, List, Option, Ok, Err, refl}
use Rattle.just_path_text.specs.declared.environ.Environ.{Environ}
use Rattle.just_host_record.specs.World.{World}
use Rattle.just_config_words.specs.declared.arguments.Arguments.{Arguments}
use Rattle.just_config_words.specs.declared.words.Read.TheVariants as read
use Rattle.just_config_words.specs.Words.{Means}
use Rattle.just_exec.specs.declared.error.Error.{Error}
use Rattle.just_cli_plan.specs.Own.{OrMemory}
use Rattle.just_cli.specs.Quiet.{AsksQuiet, AskQuiet, as_read, unread}
use Rattle.just_cli.specs.Asked.{EnvironGiven}
use Rattle.just_cli.specs.Words.{ReadsWords}

module _ (words : List (List ℕ)) (told : Option World) where
  -- the environment isn't there
  pub quiet_without_environ : (e : Error) → OrMemory (λ x. EnvironGiven told (Err x)) e → AskQuiet words told false e
  quiet_without_environ e (inl wants) = unread refl (inl wants)
  quiet_without_environ e (inr lost) = unread refl (inr (inl lost))

  -- the words that were read
  pub quiet_read : (quiet : Bool) (e : Error) → AsksQuiet words told quiet → AskQuiet words told quiet e
  quiet_read quiet e asks = as_read asks.environ asks.arguments asks.given asks.means asks.quiet_is

  module _ (environ : Environ) (given : EnvironGiven told (Ok environ)) where
    -- the words are faulty
    pub quiet_without_words : (e : Error) → OrMemory (λ x. ReadsWords (record { words = words; environ = environ }) (Err x)) e → AskQuiet words told false e
    quiet_without_words e (inl wants) = unread refl (inl wants)
    quiet_without_words e (inr faulty) = unread refl (inr (inr (environ, given, faulty)))

    pub quiet_of_words : (a : Arguments) (quiet : Bool) (e : Error) → Means words environ.pairs (Ok (read.Go a)) → quiet ≡ a.quiet → AskQuiet words told quiet e
    quiet_of_words a quiet e means is = as_read environ a given means is

    pub asks_quiet : (a : Arguments) (quiet : Bool) → Means words environ.pairs (Ok (read.Go a)) → quiet ≡ a.quiet → AsksQuiet words told quiet
    asks_quiet a quiet means is = record { environ = environ; arguments = a; given = given; means = means; quiet_is = is }
