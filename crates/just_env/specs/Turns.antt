-- The stack of modules whose pairs are still to be loaded, and what one turn of the loading makes of it.
use Rattle.std.specs.Prelude.{◌≡◌, List, ◌++◌, map, reverse, Option, Result, Ok, Err}
use Rattle.std.specs.Borrow.{Bor}
use Rattle.just_host_record.specs.World.{World}
use Rattle.just_dotenv.specs.Meaning.{Pairs}
use Rattle.just_lang_types.specs.declared.project.Justfile.{Justfile}
use Rattle.just_lang_types.specs.declared.scope.DotenvOf.{DotenvOf}
use Rattle.just_lang_types.specs.Modules.{modules_of}
use Rattle.just_exec_work.specs.declared.run_flags.RunFlags.{RunFlags}
use Rattle.just_env.specs.declared.ask.DotenvAsk.{DotenvAsk}
use Rattle.just_env.specs.declared.env_error.EnvError.{EnvError}
use Rattle.just_env.specs.Captures.{Capture}
use Rattle.just_env.specs.Loads.{LoadsOwn, Following, following, folder_of, dotenv_of}

-- the modules behind borrows
abbrev pub seen : List (Bor Justfile × Pairs) → Following
seen pending = map (λ p. (p.0.now, p.1)) pending

-- the pairs of a module behind those that it follows, and the modules within it on top of the stack, the first one on top; or why they aren't loaded.
-- With the children that were run to their end for them
abbrev pub LoadsNext : Option World → DotenvAsk → RunFlags → Pairs → Justfile → Pairs → Following → Following → List Capture → Result DotenvOf EnvError → Type 0
LoadsNext told ask flags environ j before old new cs (Ok one) =
    (own : Pairs) × LoadsOwn told ask flags environ (folder_of flags.folder j) j cs (Ok own) × (one ≡ dotenv_of j (before ++ own)) × (new ≡ old ++ reverse (following (before ++ own) (modules_of j)))
LoadsNext told ask flags environ j before old new cs (Err e) = LoadsOwn told ask flags environ (folder_of flags.folder j) j cs (Err e)
