-- The dotenv pairs of the modules of a project.
use Rattle.std.specs.Prelude.{ℕ, ◌≡◌, ◌⊎◌, ◌||◌, Bool, if◌then◌else◌, List, [], ◌∷◌, ◌++◌, map, filter, Option, Some, None, is_none, Result, Ok, Err}
use Rattle.std.specs.List.{Contains}
use Rattle.just_path.specs.Ancestors.{ancestors_of}
use Rattle.just_path_text.specs.Environ.{value_of}
use Rattle.just_host_record.specs.World.{World}
use Rattle.just_dotenv.specs.Meaning.{Pairs}
use Rattle.just_lang_types.specs.declared.project.Justfile.{Justfile, out-Justfile}
use Rattle.just_lang_types.specs.declared.scope.DotenvOf.{DotenvOf}
use Rattle.just_lang_types.specs.declared.settings.Settings.{Settings}
use Rattle.just_lang_types.specs.Modules.{path_of, settings_of, modules_of}
use Rattle.just_exec_work.specs.declared.run_flags.RunFlags.{RunFlags}
use Rattle.just_exec_work.specs.Folders.{module_folder}
use Rattle.just_exec_work.specs.Shells.{shell}
use Rattle.just_env.specs.declared.ask.DotenvAsk.{DotenvAsk}
use Rattle.just_env.specs.declared.ask.Sources.{Sources}
use Rattle.just_env.specs.declared.ask.Sources.TheVariants as sources
use Rattle.just_env.specs.declared.env_error.EnvError.{EnvError}
use Rattle.just_env.specs.declared.env_error.EnvError.TheVariants as error
use Rattle.just_env.specs.Asked.{sources_of, commands_of, paths_given, names_wanted}
use Rattle.just_env.specs.Captures.{Capture, told_behind}
use Rattle.just_env.specs.Commands.{RunsCommands, BeginsCommands}
use Rattle.just_env.specs.Files.{LoadsUnder}
use Rattle.just_env.specs.Sequences.{First}

-- ---- one module

-- The pairs of a module's files: those at all given paths under its folder. Where none of them is there, those of the first folder, from that one
-- upwards, in which any file of the names is.
pub data FindsFiles (told : Option World) (environ : Pairs) (paths names : List (List ℕ)) (folder : List ℕ) : Result (Option Pairs) EnvError → Type 0 where
  by_paths : (pairs : Pairs) → LoadsUnder told environ paths folder (Ok (Some pairs)) → FindsFiles told environ paths names folder (Ok (Some pairs))
  refused : (e : EnvError) → LoadsUnder told environ paths folder (Err e) → FindsFiles told environ paths names folder (Err e)
  by_names : (r : Result (Option Pairs) EnvError) → LoadsUnder told environ paths folder (Ok None) → First (LoadsUnder told environ names) (ancestors_of folder) r
      → FindsFiles told environ paths names folder r

-- the pairs that are kept: all of them where they go before the environment, else those whose names it lacks
abbrev pub kept : Bool → Pairs → Pairs → Pairs
kept overrides environ pairs = filter (λ p. overrides || is_none (value_of p.0 environ)) pairs

-- what a module has of the pairs that were found; a file may be required
abbrev pub pairs_of_found : Settings → Pairs → Result (Option Pairs) EnvError → Result Pairs EnvError
pairs_of_found s environ (Ok (Some pairs)) = Ok (kept s.dotenv_override environ pairs)
pairs_of_found s environ (Ok None) = if s.dotenv_required then Err error.DotenvRequired else Ok []
pairs_of_found s environ (Err e) = Err e

-- the pairs of a module's files, which are looked for from that folder on
abbrev pub FoundPairs : Option World → DotenvAsk → Pairs → List ℕ → Settings → Result Pairs EnvError → Type 0
FoundPairs told ask environ folder s r =
    (found : Result (Option Pairs) EnvError) × FindsFiles told environ (paths_given ask s) (names_wanted ask s) folder found × (r ≡ pairs_of_found s environ found)

-- what a module has of the pairs that its commands gave
abbrev pub pairs_of_commands : Settings → Pairs → Result Pairs EnvError → Result Pairs EnvError
pairs_of_commands s environ (Ok pairs) = Ok (kept s.dotenv_override environ pairs)
pairs_of_commands s environ (Err e) = Err e

-- the pairs of a module's commands, which the shell of its lines runs in that folder; with the children that were run to their end for them
abbrev pub PrintedPairs : Option World → RunFlags → Pairs → List ℕ → Settings → List (List ℕ) → List Capture → Result Pairs EnvError → Type 0
PrintedPairs told flags environ folder s commands cs r =
    (found : Result Pairs EnvError) × RunsCommands environ (shell flags s) folder told commands cs found × (r ≡ pairs_of_commands s environ found)

-- the pairs of a module that has them from there; only commands run children
abbrev pub LoadsFrom : Option World → DotenvAsk → RunFlags → Pairs → List ℕ → Justfile → Result Sources EnvError → List Capture → Result Pairs EnvError → Type 0
LoadsFrom told ask flags environ folder j (Ok sources.Nothing) cs r = (cs ≡ []) × (r ≡ Ok [])
LoadsFrom told ask flags environ folder j (Ok sources.Files) cs r = (cs ≡ []) × FoundPairs told ask environ folder (settings_of j) r
LoadsFrom told ask flags environ folder j (Ok sources.Commands) cs r = PrintedPairs told flags environ folder (settings_of j) (commands_of ask j) cs r
LoadsFrom told ask flags environ folder j (Err e) cs r = (cs ≡ []) × (r ≡ Err e)

-- the pairs of a module itself, whose folder that is, or why they aren't loaded
abbrev pub LoadsOwn : Option World → DotenvAsk → RunFlags → Pairs → List ℕ → Justfile → List Capture → Result Pairs EnvError → Type 0
LoadsOwn told ask flags environ folder j cs r = LoadsFrom told ask flags environ folder j (sources_of ask j) cs r

-- ---- all modules

-- the folder of a module of a project that is run in a working folder
abbrev pub folder_of : List ℕ → Justfile → List ℕ
folder_of working j = module_folder working (path_of j) (out-Justfile j).source

abbrev pub dotenv_of : Justfile → Pairs → DotenvOf
dotenv_of j pairs = record { «module» = path_of j; pairs = pairs }

-- a module's pairs before those of the modules behind it
abbrev pub before_others : DotenvOf → Result (List DotenvOf) EnvError → Result (List DotenvOf) EnvError
before_others own (Ok others) = Ok (own ∷ others)
before_others own (Err e) = Err e

-- modules, each with the pairs that it follows
abbrev pub Following : Type 0
Following = List (Justfile × Pairs)

-- some modules that follow the same pairs
abbrev pub following : Pairs → List Justfile → Following
following pairs js = map (λ j. (j, pairs)) js

-- The pairs of modules and of all within them, in the order of the sources, each before those within it: behind those that a module follows
-- come its own, and those within it follow these. Or the first refusal. With them come the children that were run to their end, each module's behind
-- those of the modules before it; what files show is told behind these.
pub data LoadsModules (ask : DotenvAsk) (flags : RunFlags) (environ : Pairs) : Option World → Following → List Capture → Result (List DotenvOf) EnvError → Type 0 where
  none : (told : Option World) → LoadsModules ask flags environ told [] [] (Ok [])
  refused : (told : Option World) (j : Justfile) (before : Pairs) (others : Following) (cs : List Capture) (e : EnvError)
      → LoadsOwn told ask flags environ (folder_of flags.folder j) j cs (Err e) → LoadsModules ask flags environ told ((j, before) ∷ others) cs (Err e)
  more : (told : Option World) (j : Justfile) (before own : Pairs) (others : Following) (cs ds : List Capture) (r : Result (List DotenvOf) EnvError)
      → LoadsOwn told ask flags environ (folder_of flags.folder j) j cs (Ok own)
      → LoadsModules ask flags environ (told_behind told cs) (following (before ++ own) (modules_of j) ++ others) ds r
      → LoadsModules ask flags environ told ((j, before) ∷ others) (cs ++ ds) (before_others (dotenv_of j (before ++ own)) r)

-- the pairs of the modules of a project, and the children that were run to their end for them
abbrev pub LoadsProject : Option World → DotenvAsk → RunFlags → Pairs → Justfile → List Capture → Result (List DotenvOf) EnvError → Type 0
LoadsProject told ask flags environ j cs r = LoadsModules ask flags environ told (following [] (j ∷ [])) cs r

-- ---- what was begun

-- of a module's own pairs: children are run for its commands alone
abbrev pub BeginsOwn : Option World → DotenvAsk → RunFlags → Pairs → List ℕ → Justfile → List Capture → Type 0
BeginsOwn told ask flags environ folder j cs =
    (cs ≡ []) ⊎ ((sources_of ask j ≡ Ok sources.Commands) × BeginsCommands environ (shell flags (settings_of j)) folder told (commands_of ask j) cs)

-- of modules and all within them, in the order of the sources: each but the last of those that were begun has its pairs
pub data BeginsModules (ask : DotenvAsk) (flags : RunFlags) (environ : Pairs) : Option World → Following → List Capture → Type 0 where
  nothing_more : (told : Option World) (left : Following) → BeginsModules ask flags environ told left []
  the_last : (told : Option World) (j : Justfile) (before : Pairs) (others : Following) (cs : List Capture)
      → BeginsOwn told ask flags environ (folder_of flags.folder j) j cs → BeginsModules ask flags environ told ((j, before) ∷ others) cs
  one_before : (told : Option World) (j : Justfile) (before own : Pairs) (others : Following) (cs ds : List Capture)
      → LoadsOwn told ask flags environ (folder_of flags.folder j) j cs (Ok own)
      → BeginsModules ask flags environ (told_behind told cs) (following (before ++ own) (modules_of j) ++ others) ds
      → BeginsModules ask flags environ told ((j, before) ∷ others) (cs ++ ds)

-- of the pairs of the modules of a project
abbrev pub BeginsProject : Option World → DotenvAsk → RunFlags → Pairs → Justfile → List Capture → Type 0
BeginsProject told ask flags environ j cs = BeginsModules ask flags environ told (following [] (j ∷ [])) cs

-- ---- the program that runs commands

-- the program of the shell that runs a module's commands
abbrev pub shell_program : RunFlags → Justfile → List ℕ
shell_program flags j = (shell flags (settings_of j)).command

-- a module of a project
pub data IsModuleOf (root : Justfile) : Justfile → Type 0 where
  itself : IsModuleOf root root
  within : (j m : Justfile) → IsModuleOf root j → Contains (modules_of j) m → IsModuleOf root m

-- a program is that of the shell of one of its modules
abbrev pub IsShellOf : RunFlags → Justfile → List ℕ → Type 0
IsShellOf flags root program = (m : Justfile) × IsModuleOf root m × (program ≡ shell_program flags m)
