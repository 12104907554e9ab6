-- What is asked of a module: from where it has its pairs, by which commands, and at which paths and under which names its files are looked for.
use Rattle.std.specs.Prelude.{ℕ, not, ◌&&◌, ◌||◌, ◌==◌, Bool, true, false, if◌then◌else◌, List, [], ◌∷◌, length, Option, Some, None, codes, Result, Ok, Err}
use Rattle.just_lang_types.specs.declared.project.Justfile.{Justfile}
use Rattle.just_lang_types.specs.declared.settings.Settings.{Settings}
use Rattle.just_lang_types.specs.Modules.{path_of, settings_of}
use Rattle.just_env.specs.declared.ask.DotenvAsk.{DotenvAsk}
use Rattle.just_env.specs.declared.ask.Sources.{Sources}
use Rattle.just_env.specs.declared.ask.Sources.TheVariants as sources
use Rattle.just_env.specs.declared.env_error.EnvError.{EnvError}
use Rattle.just_env.specs.declared.env_error.EnvError.TheVariants as error

abbrev pub is_any : List (List ℕ) → Bool
is_any [] = false
is_any (t ∷ ts) = true

abbrev pub is_several : List (List ℕ) → Bool
is_several [] = false
is_several (t ∷ ts) = is_any ts

-- the texts of an option, where it is given; else that of a setting, where it is set
abbrev pub given : List (List ℕ) → Option (List ℕ) → List (List ℕ)
given [] None = []
given [] (Some text) = text ∷ []
given (t ∷ ts) setting = t ∷ ts

-- the paths of a module's files
abbrev pub paths_given : DotenvAsk → Settings → List (List ℕ)
paths_given ask s = given ask.paths s.dotenv_path

-- their names, where the option or the setting gives some
abbrev pub names_given : DotenvAsk → Settings → List (List ℕ)
names_given ask s = given ask.filenames s.dotenv_filename

abbrev pub or_default : List (List ℕ) → List (List ℕ)
or_default [] = codes ".env" ∷ []
or_default (name ∷ names) = name ∷ names

-- the names under which they are looked for
abbrev pub names_wanted : DotenvAsk → Settings → List (List ℕ)
names_wanted ask s = or_default (names_given ask s)

-- whether a module is the root
abbrev pub is_root : Justfile → Bool
is_root j = length (path_of j).components == 0

-- the commands of the words, which are the root's alone
abbrev pub commands_asked : DotenvAsk → Justfile → List (List ℕ)
commands_asked ask j = if is_root j then ask.commands else []

-- the commands whose output gives a module its pairs: those of the words, where they give it some; else that of the setting, where it is set
abbrev pub commands_of : DotenvAsk → Justfile → List (List ℕ)
commands_of ask j = given (commands_asked ask j) (settings_of j).dotenv_command

-- whether the options give several names or several paths
abbrev pub has_several : DotenvAsk → Bool
has_several ask = is_several ask.filenames || is_several ask.paths

-- whether a setting asks for dotenv files, whatever their names
abbrev pub has_flag : Settings → Bool
has_flag s = s.dotenv_load || (s.dotenv_override || s.dotenv_required)

abbrev pub has_given : DotenvAsk → Settings → Bool
has_given ask s = is_any (names_given ask s) || is_any (paths_given ask s)

-- From where a module has its pairs, or why it is refused before anything is read or run. It has none where the words say so. Where commands give
-- the pairs, no file is read, and a run that only shows its commands runs none of them.
abbrev pub sources_of : DotenvAsk → Justfile → Result Sources EnvError
sources_of ask j =
    if not ask.load then Ok sources.Nothing
    else (if is_any (commands_of ask j) then (if ask.dry_run then Ok sources.Nothing else Ok sources.Commands)
    else (if has_several ask && not (settings_of j).lists then Err error.DotenvArgumentsRequireLists
    else (if has_flag (settings_of j) || has_given ask (settings_of j) then Ok sources.Files else Ok sources.Nothing)))
