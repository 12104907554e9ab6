-- What the kind of an option says of it.
use Rattle.std.specs.Prelude.{Bool, true, false}
use Rattle.just_config_words.specs.declared.entry.Kind.{Kind}
use Rattle.just_config_words.specs.declared.entry.Kind.TheVariants as kind

-- whether it may stand at most once
abbrev pub is_once : Kind → Bool
is_once kind.Flag = true
is_once kind.Single = true
is_once _ = false

-- whether it says what is done in place of a run
abbrev pub is_command : Kind → Bool
is_command kind.Command = true
is_command _ = false

abbrev pub is_help : Kind → Bool
is_help kind.Help = true
is_help _ = false

abbrev pub is_version : Kind → Bool
is_version kind.Version = true
is_version _ = false

-- whether it is an option of `just` that isn't read here
abbrev pub is_left_out : Kind → Bool
is_left_out kind.LeftOut = true
is_left_out _ = false
