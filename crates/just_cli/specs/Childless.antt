-- What a dry run leaves undone: no child is run for it.
use Rattle.std.specs.Prelude.{◌≡◌, true, List, [], ◌∷◌, Option, None, Result}
use Rattle.just_host_record.specs.declared.entry.Entry.{Entry}
use Rattle.just_host_record.specs.World.{World}
use Rattle.just_exec.specs.declared.error.Error.{Error}
use Rattle.just_cli.specs.Acts.{Act}
use Rattle.just_cli.specs.Asked.{Asked, Serves, BeginsServes}
use Rattle.just_cli.specs.Words.{ArgumentsRequest}

-- acts that make temporary folders, and run no child
abbrev pub AreFolders : List Act → Type 0
AreFolders [] = Unit {0}
AreFolders (Act.made folder ∷ acts) = AreFolders acts
AreFolders (Act.captured c ∷ acts) = ⊥
AreFolders (Act.uncaptured program ∷ acts) = ⊥

-- Of arguments without a command that ask for a dry run, whatever they come to and whatever was begun of them, all acts make temporary folders.
abbrev pub RunsNoChild : Type 0
RunsNoChild =
    (q : ArgumentsRequest) (listings : List Entry) (told after : Option World) (acts : List Act) → q.arguments.dry_run ≡ true → q.arguments.subcommand ≡ None
    → ((r : Result Asked Error) → Serves listings told acts after q r → AreFolders acts) × (BeginsServes listings told acts after q → AreFolders acts)
