-- The pairs of one module, as they are answered.
use Rattle.std.proofs.Common.{◌≡◌, ◌⊎◌, inl, inr, ℕ, List, [], Option, refl, ap, sym, subst}
use Rattle.std.specs.Prelude.{Result, Ok, Err}
use Rattle.just_host_record.specs.World.{World}
use Rattle.just_dotenv.specs.Meaning.{Pairs}
use Rattle.just_lang_types.specs.declared.project.Justfile.{Justfile}
use Rattle.just_lang_types.specs.declared.settings.Settings.{Settings}
use Rattle.just_lang_types.specs.Modules.{settings_of}
use Rattle.just_lang_types.specs.declared.settings.Interpreter.{Interpreter}
use Rattle.just_exec_work.specs.declared.run_flags.RunFlags.{RunFlags}
use Rattle.just_exec_work.specs.Shells.{shell}
use Rattle.just_env.specs.declared.ask.DotenvAsk.{DotenvAsk}
use Rattle.just_env.specs.declared.ask.Sources.{Sources}
use Rattle.just_env.specs.declared.ask.Sources.TheVariants as sources
use Rattle.just_env.specs.declared.env_error.EnvError.{EnvError}
use Rattle.just_env.specs.declared.env_error.EnvError.TheVariants as error
use Rattle.just_env.specs.DotenvAnswers.{Answers}
use Rattle.just_env.specs.Asked.{sources_of, commands_of, paths_given, names_wanted}
use Rattle.just_env.specs.Captures.{Capture}
use Rattle.just_env.specs.Commands.{RunsCommands, BeginsCommands}
use Rattle.just_env.specs.Loads.{FindsFiles, FoundPairs, PrintedPairs, LoadsFrom, LoadsOwn, BeginsOwn, pairs_of_found, kept}

module _ (told : Option World) (ask : DotenvAsk) (environ : Pairs) (folder : List ℕ) where
  module _ (s : Settings) (paths names : List (List ℕ)) (are_paths : paths ≡ paths_given ask s) (are_names : names ≡ names_wanted ask s) where
    wanted : (found : Result (Option Pairs) EnvError) → FindsFiles told environ paths names folder found → FindsFiles told environ (paths_given ask s) (names_wanted ask s) folder found
    wanted found finds =
        subst (λ ps. FindsFiles told environ ps (names_wanted ask s) folder found) are_paths (subst (λ ns. FindsFiles told environ paths ns folder found) are_names finds)

    -- files were looked for
    pub found_pairs : (found : Option Pairs) (r : Result Pairs EnvError) → FindsFiles told environ paths names folder (Ok found) → Answers (λ x. x ≡ pairs_of_found s environ (Ok found)) r
        → Answers (FoundPairs told ask environ folder s) r
    found_pairs found (Ok pairs) finds is = (Ok found, wanted (Ok found) finds, is)
    found_pairs found (Err e) finds (inl memory) = inl memory
    found_pairs found (Err e) finds (inr is) = inr (Ok found, wanted (Ok found) finds, is)

    pub found_refused : (e : EnvError) → (e ≡ error.NoMemory) ⊎ FindsFiles told environ paths names folder (Err e) → (e ≡ error.NoMemory) ⊎ FoundPairs told ask environ folder s (Err e)
    found_refused e (inl memory) = inl memory
    found_refused e (inr finds) = inr (Err e, wanted (Err e) finds, refl)

module _ (told : Option World) (flags : RunFlags) (environ : Pairs) (folder : List ℕ) (s : Settings) (commands : List (List ℕ)) where
  module _ (i : Interpreter) (given : List (List ℕ)) (cs : List Capture) (is : i ≡ shell flags s) (are : given ≡ commands) where
    by_shell : (r : Result Pairs EnvError) → RunsCommands environ i folder told given cs r → RunsCommands environ (shell flags s) folder told commands cs r
    by_shell r runs = subst (λ ks. RunsCommands environ (shell flags s) folder told ks cs r) are (subst (λ x. RunsCommands environ x folder told given cs r) is runs)

    pub begun_by_shell : BeginsCommands environ i folder told given cs → BeginsCommands environ (shell flags s) folder told commands cs
    begun_by_shell begins = subst (λ ks. BeginsCommands environ (shell flags s) folder told ks cs) are (subst (λ x. BeginsCommands environ x folder told given cs) is begins)

    -- commands were run
    pub printed_kept : (pairs kept_pairs : Pairs) → RunsCommands environ i folder told given cs (Ok pairs) → kept_pairs ≡ kept s.dotenv_override environ pairs
        → PrintedPairs told flags environ folder s commands cs (Ok kept_pairs)
    printed_kept pairs kept_pairs runs so = (Ok pairs, by_shell (Ok pairs) runs, ap (λ ps. Ok ps) so)

    pub printed_refused : (e : EnvError) → RunsCommands environ i folder told given cs (Err e) → PrintedPairs told flags environ folder s commands cs (Err e)
    printed_refused e runs = (Err e, by_shell (Err e) runs, refl)

module _ (told : Option World) (ask : DotenvAsk) (flags : RunFlags) (environ : Pairs) (folder : List ℕ) (j : Justfile) where
  by_sources : (cs : List Capture) (r : Result Pairs EnvError) (from : Result Sources EnvError) → from ≡ sources_of ask j → LoadsFrom told ask flags environ folder j from cs r → LoadsOwn told ask flags environ folder j cs r
  by_sources cs r from is loads = subst (λ (f : Result Sources EnvError). LoadsFrom told ask flags environ folder j f cs r) is loads

  -- nothing is asked for
  pub own_nothing : (pairs : Pairs) → ◌≡◌ {A = Result Sources EnvError} (Ok sources.Nothing) (sources_of ask j) → pairs ≡ [] → LoadsOwn told ask flags environ folder j [] (Ok pairs)
  own_nothing pairs is none = by_sources [] (Ok pairs) (Ok sources.Nothing) is (refl, ap (λ ps. Ok ps) none)

  pub own_refused : (e : EnvError) → ◌≡◌ {A = Result Sources EnvError} (Err e) (sources_of ask j) → LoadsOwn told ask flags environ folder j [] (Err e)
  own_refused e is = by_sources [] (Err e) (Err e) is (refl, refl)

  -- files are
  pub own_found : (s : Settings) (r : Result Pairs EnvError) → ◌≡◌ {A = Result Sources EnvError} (Ok sources.Files) (sources_of ask j) → s ≡ settings_of j → Answers (FoundPairs told ask environ folder s) r
      → Answers (LoadsOwn told ask flags environ folder j []) r
  own_found s (Ok pairs) is of_module found = by_sources [] (Ok pairs) (Ok sources.Files) is (refl, subst (λ t. FoundPairs told ask environ folder t (Ok pairs)) of_module found)
  own_found s (Err e) is of_module (inl memory) = inl memory
  own_found s (Err e) is of_module (inr found) = inr (by_sources [] (Err e) (Ok sources.Files) is (refl, subst (λ t. FoundPairs told ask environ folder t (Err e)) of_module found))

  -- commands are
  pub own_printed : (s : Settings) (commands : List (List ℕ)) → ◌≡◌ {A = Result Sources EnvError} (Ok sources.Commands) (sources_of ask j) → s ≡ settings_of j → commands ≡ commands_of ask j
      → (cs : List Capture) (r : Result Pairs EnvError) → PrintedPairs told flags environ folder s commands cs r → LoadsOwn told ask flags environ folder j cs r
  own_printed s commands is of_module of_ask cs r printed =
      by_sources cs r (Ok sources.Commands) is
      (subst (λ t. PrintedPairs told flags environ folder t (commands_of ask j) cs r) of_module (subst (λ ks. PrintedPairs told flags environ folder s ks cs r) of_ask printed))

  pub own_begun : (s : Settings) (commands : List (List ℕ)) → ◌≡◌ {A = Result Sources EnvError} (Ok sources.Commands) (sources_of ask j) → s ≡ settings_of j → commands ≡ commands_of ask j
      → (cs : List Capture) → BeginsCommands environ (shell flags s) folder told commands cs → BeginsOwn told ask flags environ folder j cs
  own_begun s commands is of_module of_ask cs begins =
      inr (sym is, subst (λ t. BeginsCommands environ (shell flags t) folder told (commands_of ask j) cs) of_module (subst (λ ks. BeginsCommands environ (shell flags s) folder told ks cs) of_ask begins))
