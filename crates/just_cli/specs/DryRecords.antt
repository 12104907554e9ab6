-- What a dry run leaves in the record.
use Rattle.std.specs.Prelude.{ℕ, ◌≡◌, ◌++◌, Bool, true, false, List, None, Option, Result, Ok}
use Rattle.std.specs.List.{AllByRecursion}
use Rattle.just_path_text.specs.declared.environ.Environ.{Environ}
use Rattle.just_host_record.specs.declared.entry.Entry.{Entry}
use Rattle.just_host_record.specs.declared.entry.Entry.TheVariants as entry
use Rattle.just_host_record.specs.World.{World, Moment}
use Rattle.just_config_words.specs.declared.words.Read.{Read}
use Rattle.just_config_words.specs.declared.words.Read.TheVariants as read
use Rattle.just_config_words.specs.Words.{Means}
use Rattle.just_cli.specs.declared.ended.Failure.{Failure}
use Rattle.just_cli.specs.declared.ended.Report.{Report}
use Rattle.just_cli.specs.Asked.{EnvironGiven}
use Rattle.just_cli.specs.Run.{IsEnded}

-- words that are read as arguments without a command, and with dry run on
abbrev pub IsDryRead : Read → Type 0
IsDryRead read.Help = ⊥
IsDryRead read.Version = ⊥
IsDryRead (read.Go a) = (a.dry_run ≡ true) × (a.subcommand ≡ None)

abbrev pub AskDry : List (List ℕ) → Option World → Type 0
AskDry words told = (environ : Environ) (m : Read) → EnvironGiven told (Ok environ) → Means words environ.pairs (Ok m) → IsDryRead m

-- Entries of texts that are printed, of temporary folders, and of calls that miss or fail. All others are of children, or of bodies: what is asked, summed, looked at,
-- checked and saved for them.
abbrev pub runs_nothing : Entry → Bool
runs_nothing (entry.Missed path m) = true
runs_nothing (entry.Failed c) = true
runs_nothing (entry.Strayed child other) = true
runs_nothing (entry.Printed stream text) = true
runs_nothing (entry.Made folder) = true
runs_nothing (entry.Asked prompt answer) = false
runs_nothing (entry.Summed path sum) = false
runs_nothing (entry.Probed path outputs look) = false
runs_nothing (entry.Checked outputs missing) = false
runs_nothing (entry.Saved path) = false
runs_nothing (entry.Started child spec) = false
runs_nothing (entry.Ended child status) = false
runs_nothing (entry.Captured spec input status output) = false
runs_nothing (entry.Signalled signal) = false

-- However words end that ask for a dry run, they leave no other entry.
abbrev pub DryRunsRunNothing : Type 0
DryRunsRunNothing =
    (words : List (List ℕ)) (before after : Moment) (result : Result Report Failure) (es : List Entry) → AskDry words before.world → IsEnded words before after result → after.entries ≡ before.entries ++ es
    → AllByRecursion (λ e. runs_nothing e ≡ true) es
