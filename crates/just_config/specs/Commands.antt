-- What a command takes.
use Rattle.std.specs.Prelude.{ℕ, Bool, true, false, List, [], drop, Option, Some, None, codes}
use Rattle.just_lang_types.specs.declared.scope.Override.{Override}
use Rattle.just_config_words.specs.declared.subcommand.Subcommand.{Subcommand}
use Rattle.just_config_words.specs.declared.subcommand.Subcommand.TheVariants as command

-- its name in texts: the first one, but `format` for `--fmt`
abbrev pub name_of : Subcommand → List ℕ
name_of (command.Choose ws) = codes "choose"
name_of (command.Clean ws) = codes "clean"
name_of (command.Command ws) = codes "command"
name_of (command.Dump ws) = codes "dump"
name_of (command.Edit ws) = codes "edit"
name_of (command.Evaluate ws) = codes "evaluate"
name_of (command.Fmt ws) = codes "format"
name_of (command.Groups ws) = codes "groups"
name_of (command.Init ws) = codes "init"
name_of (command.List ws) = codes "list"
name_of (command.Request ws) = codes "request"
name_of (command.Show ws) = codes "show"
name_of (command.Summary ws) = codes "summary"
name_of (command.Usage ws) = codes "usage"
name_of (command.Variables ws) = codes "variables"
name_of (command.Vectors ws) = codes "vectors"

-- the words that are to be a module path
abbrev pub path_words : Subcommand → Option (List (List ℕ))
path_words (command.Clean ws) = Some ws
path_words (command.List ws) = Some ws
path_words (command.Show ws) = Some ws
path_words (command.Usage ws) = Some ws
path_words _ = None

-- whether it is `--command` without words
abbrev pub is_empty_command : Subcommand → Bool
is_empty_command (command.Command []) = true
is_empty_command _ = false

-- the words that are to be one request
abbrev pub request_words : Subcommand → Option (List (List ℕ))
request_words (command.Request ws) = Some ws
request_words _ = None

-- the arguments that it doesn't take: all but one of `--evaluate`; none of those whose words stand in front of them; else all
abbrev pub surplus_arguments : Subcommand → List (List ℕ) → List (List ℕ)
surplus_arguments (command.Evaluate ws) ts = drop 1 ts
surplus_arguments (command.Clean ws) ts = []
surplus_arguments (command.Command ws) ts = []
surplus_arguments (command.List ws) ts = []
surplus_arguments (command.Show ws) ts = []
surplus_arguments (command.Usage ws) ts = []
surplus_arguments _ ts = ts

-- the overrides that it doesn't take
abbrev pub surplus_overrides : Subcommand → List Override → List Override
surplus_overrides (command.Dump ws) os = os
surplus_overrides (command.Edit ws) os = os
surplus_overrides (command.Fmt ws) os = os
surplus_overrides (command.Groups ws) os = os
surplus_overrides (command.Init ws) os = os
surplus_overrides (command.Request ws) os = os
surplus_overrides (command.Summary ws) os = os
surplus_overrides (command.Variables ws) os = os
surplus_overrides (command.Vectors ws) os = os
surplus_overrides _ os = []
