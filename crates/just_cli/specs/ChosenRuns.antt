-- Words that are chosen ask for one run.
use Rattle.std.specs.Prelude.{ℕ, ◌≡◌, ◌++◌, true, List, Option, Some, Result, Ok}
use Rattle.just_host_record.specs.World.{World}
use Rattle.just_config_words.specs.declared.subcommand.Subcommand.TheVariants as command
use Rattle.just_exec.specs.declared.error.Error.{Error}
use Rattle.just_cli_texts.specs.Laid.{LaidRequest}
use Rattle.just_cli_children.specs.Configs.{with_words, is_any}
use Rattle.just_cli.specs.Acts.{Act}
use Rattle.just_cli.specs.Asked.{as_choice, RunsTried}
use Rattle.just_cli.specs.Choosing.{RunsWords}
use Rattle.just_cli.specs.Replies.{Reply}
use Rattle.just_cli.specs.Request.{FindsProjectAt}
use Rattle.just_cli.specs.Words.{LocatedRequest}

-- the same place, of which words ask without a command
abbrev pub run_of : LocatedRequest → List (List ℕ) → LocatedRequest
run_of q words = record { config = with_words q.config words; environ = q.environ; location = q.location }

-- What words that are chosen ask for behind a project is, with the acts by which the project was found in front, what a run of those words asks for in its
-- place.
abbrev pub ChoicesAreRuns : Type 0
ChoicesAreRuns =
    (q : LocatedRequest) (p : LaidRequest) (named words : List (List ℕ)) (told between after : Option World) (front rest : List Act) (r : Result (Option Reply) Error)
    → q.config.subcommand ≡ Some (command.Choose named) → is_any words ≡ true → FindsProjectAt told front between q (Ok p) → RunsWords q p between rest after words r
    → RunsTried told (front ++ rest) after (run_of q words) (as_choice q.config.dry_run r)
