-- What a command does.
use Rattle.std.specs.Prelude.{ℕ, Bool, true, false, List, [], Option, Some, None}
use Rattle.just_config_words.specs.declared.subcommand.Subcommand.{Subcommand}
use Rattle.just_config_words.specs.declared.subcommand.Subcommand.TheVariants as command
use Rattle.just_cli_texts.specs.declared.kind.Kind.{Kind}
use Rattle.just_cli_texts.specs.declared.kind.Kind.TheVariants as kind

-- words without a command ask for a run
abbrev pub kind_of : Option Subcommand → Kind
kind_of None = kind.Run
kind_of (Some (command.Choose ws)) = kind.Choose
kind_of (Some (command.Clean ws)) = kind.Clean
kind_of (Some (command.Command ws)) = kind.Command
kind_of (Some (command.Dump ws)) = kind.Print
kind_of (Some (command.Edit ws)) = kind.Edit
kind_of (Some (command.Evaluate ws)) = kind.Evaluate
kind_of (Some (command.Fmt ws)) = kind.Format
kind_of (Some (command.Groups ws)) = kind.Print
kind_of (Some (command.Init ws)) = kind.New
kind_of (Some (command.List ws)) = kind.Print
kind_of (Some (command.Request ws)) = kind.Respond
kind_of (Some (command.Show ws)) = kind.Print
kind_of (Some (command.Summary ws)) = kind.Print
kind_of (Some (command.Usage ws)) = kind.Print
kind_of (Some (command.Variables ws)) = kind.Print
kind_of (Some (command.Vectors ws)) = kind.Vectors

-- whether it reads a justfile
abbrev pub reads_justfile : Kind → Bool
reads_justfile kind.Run = true
reads_justfile kind.New = false
reads_justfile kind.Respond = false
reads_justfile kind.Vectors = false
reads_justfile kind.Format = true
reads_justfile kind.Clean = true
reads_justfile kind.Evaluate = true
reads_justfile kind.Print = true
reads_justfile kind.Choose = true
reads_justfile kind.Edit = true
reads_justfile kind.Command = true

-- whether it asks for a new justfile
abbrev pub is_new : Kind → Bool
is_new kind.Run = false
is_new kind.New = true
is_new kind.Respond = false
is_new kind.Vectors = false
is_new kind.Format = false
is_new kind.Clean = false
is_new kind.Evaluate = false
is_new kind.Print = false
is_new kind.Choose = false
is_new kind.Edit = false
is_new kind.Command = false

-- whether it tells of a run over a host in memory
abbrev pub is_vectors : Kind → Bool
is_vectors kind.Run = false
is_vectors kind.New = false
is_vectors kind.Respond = false
is_vectors kind.Vectors = true
is_vectors kind.Format = false
is_vectors kind.Clean = false
is_vectors kind.Evaluate = false
is_vectors kind.Print = false
is_vectors kind.Choose = false
is_vectors kind.Edit = false
is_vectors kind.Command = false

-- whether it asks something of the justfile in its place
abbrev pub is_placed : Kind → Bool
is_placed kind.Run = false
is_placed kind.New = false
is_placed kind.Respond = false
is_placed kind.Vectors = false
is_placed kind.Format = true
is_placed kind.Clean = true
is_placed kind.Evaluate = true
is_placed kind.Print = true
is_placed kind.Choose = false
is_placed kind.Edit = true
is_placed kind.Command = true

-- whether recipes are chosen for it
abbrev pub is_choice : Kind → Bool
is_choice kind.Run = false
is_choice kind.New = false
is_choice kind.Respond = false
is_choice kind.Vectors = false
is_choice kind.Format = false
is_choice kind.Clean = false
is_choice kind.Evaluate = false
is_choice kind.Print = false
is_choice kind.Choose = true
is_choice kind.Edit = false
is_choice kind.Command = false

-- the words of a command
abbrev pub words_of : Option Subcommand → List (List ℕ)
words_of None = []
words_of (Some (command.Choose ws)) = ws
words_of (Some (command.Clean ws)) = ws
words_of (Some (command.Command ws)) = ws
words_of (Some (command.Dump ws)) = ws
words_of (Some (command.Edit ws)) = ws
words_of (Some (command.Evaluate ws)) = ws
words_of (Some (command.Fmt ws)) = ws
words_of (Some (command.Groups ws)) = ws
words_of (Some (command.Init ws)) = ws
words_of (Some (command.List ws)) = ws
words_of (Some (command.Request ws)) = ws
words_of (Some (command.Show ws)) = ws
words_of (Some (command.Summary ws)) = ws
words_of (Some (command.Usage ws)) = ws
words_of (Some (command.Variables ws)) = ws
words_of (Some (command.Vectors ws)) = ws
