-- The shell that runs lines, and what runs scripts.
use Rattle.std.specs.Prelude.{ℕ, is_some, ◌||◌, if◌then◌else◌, List, [], ◌∷◌, Option, Some, None, option_map, codes}
use Rattle.std.specs.Option.{unwrap_or}
use Rattle.just_lang_types.specs.declared.settings.Interpreter.{Interpreter}
use Rattle.just_lang_types.specs.declared.settings.Settings.{Settings}
use Rattle.just_exec_work.specs.Shebangs.{shebang}
use Rattle.just_exec_work.specs.Scripts.{Runner, by_command, by_shebang}
use Rattle.just_exec_work.specs.declared.run_flags.RunFlags.{RunFlags}

abbrev pub default_shell : Interpreter
default_shell = record { command = codes "sh"; arguments = codes "-cu" ∷ [] }

-- the shell of the words, of which each part that they lack is the default's; else that of the setting, else the default
abbrev pub shell : RunFlags → Settings → Interpreter
shell flags settings =
    if is_some flags.shell || is_some flags.shell_args
    then record { command = unwrap_or flags.shell (codes "sh"); arguments = unwrap_or flags.shell_args (codes "-cu" ∷ []) }
    else unwrap_or settings.shell default_shell

abbrev pub default_interpreter : Interpreter
default_interpreter = record { command = codes "sh"; arguments = codes "-eu" ∷ [] }

-- the command that an attribute with these texts names; where it names none, that of the setting, else the default
abbrev pub script_command : Settings → List (List ℕ) → Interpreter
script_command settings [] = unwrap_or settings.script_interpreter default_interpreter
script_command settings (command ∷ arguments) = record { command = command; arguments = arguments }

-- what runs the script of a recipe with that attribute or without it, and whose first line is that; none where the line names no
-- interpreter
abbrev pub runner : Settings → Option (List (List ℕ)) → List ℕ → Option Runner
runner settings (Some texts) line = Some (by_command (script_command settings texts))
runner settings None line = option_map by_shebang (shebang line)
