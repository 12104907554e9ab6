-- A module has no pairs, those of its commands, or those of its files; or it is refused before anything is read or run.
use Rattle.std.proofs.Common.{rules, ◌≡◌, Ok, Err, refl, inr, inl}
use Rattle.std.specs.Prelude.{Result}
use Rattle.just_path.specs.Path.{text_of}
use Rattle.just_dotenv.specs.Meaning.{Pairs}
use Rattle.just_env.proofs.Laws.{gains_none}
use Rattle.just_lang_types.specs.Modules.{settings_of}
use Rattle.just_env.specs.declared.ask.Sources.{Sources}
use Rattle.just_env.specs.declared.ask.Sources.TheVariants as sources
use Rattle.just_env.specs.declared.env_error.EnvError.{EnvError}
use Rattle.just_exec_work.specs.Shells.{shell}
use Rattle.just_env.specs.Commands.{BeginsCommands}
use Rattle.just_env.specs.Asked.{sources_of, commands_of}
use Rattle.just_env.specs.Loads.{PrintedPairs, LoadsOwn, shell_program, BeginsOwn}
use Rattle.just_env.proofs.Owned.{own_nothing, own_refused, own_found, own_printed, own_begun}
use Rattle.just_env.proofs.Record.{gains_error}
use Rattle.just_env.proofs.Running.{run_memory, run_still, run_map}
use Rattle.just_env.proofs.Ends.{ends_short, ends_unheard, ends_found}
use Rattle.just_env.proofs.module.load_dotenv.Goals as goal

pub returns-in_err-commands-clause-loaded : goal.returns-in_err-commands-clause-loaded
returns-in_err-commands-clause-loaded g c =
    run_memory (LoadsOwn (g.H.Host.told c.args.host.now).world c.args.ask.now c.args.flags.now c.args.environ.now.pairs (text_of c.args.folder) c.args.justfile.now) (BeginsOwn (g.H.Host.told c.args.host.now).world c.args.ask.now c.args.flags.now c.args.environ.now.pairs (text_of c.args.folder) c.args.justfile.now) (g.H.Host.told c.args.host.now) (g.H.Host.told c.args.host.now) _ refl refl (search rules) (inl refl)

pub returns-in-Ok-Nothing-clause-loaded : goal.returns-in-Ok-Nothing-clause-loaded
returns-in-Ok-Nothing-clause-loaded g c =
    let is : ◌≡◌ {A = Result Sources EnvError} (Ok sources.Nothing) (sources_of c.args.ask.now c.args.justfile.now) = search rules in
    run_still (LoadsOwn (g.H.Host.told c.args.host.now).world c.args.ask.now c.args.flags.now c.args.environ.now.pairs (text_of c.args.folder) c.args.justfile.now) (BeginsOwn (g.H.Host.told c.args.host.now).world c.args.ask.now c.args.flags.now c.args.environ.now.pairs (text_of c.args.folder) c.args.justfile.now) (g.H.Host.told c.args.host.now) (g.H.Host.told c.args.host.now) (Ok c.new.result)
    (own_nothing (g.H.Host.told c.args.host.now).world c.args.ask.now c.args.flags.now c.args.environ.now.pairs (text_of c.args.folder) c.args.justfile.now c.new.result is (search rules)) (gains_none (g.H.Host.told c.args.host.now).entries) refl (inl refl)

pub returns-in-Ok-Commands-clause-loaded : goal.returns-in-Ok-Commands-clause-loaded
returns-in-Ok-Commands-clause-loaded g c =
    let is : ◌≡◌ {A = Result Sources EnvError} (Ok sources.Commands) (sources_of c.args.ask.now c.args.justfile.now) = search rules in
    let asked : c.in_ok-commands.commands ≡ commands_of c.args.ask.now c.args.justfile.now = search rules in
    run_map (LoadsOwn (g.H.Host.told c.args.host.now).world c.args.ask.now c.args.flags.now c.args.environ.now.pairs (text_of c.args.folder) c.args.justfile.now) (BeginsOwn (g.H.Host.told c.args.host.now).world c.args.ask.now c.args.flags.now c.args.environ.now.pairs (text_of c.args.folder) c.args.justfile.now) (g.H.Host.told c.args.host.now) (g.H.Host.told c.load_printed.new.host)
    (PrintedPairs (g.H.Host.told c.args.host.now).world c.args.flags.now c.args.environ.now.pairs (text_of c.args.folder) (settings_of c.args.justfile.now) c.in_ok-commands.commands)
    (BeginsCommands c.args.environ.now.pairs (shell c.args.flags.now (settings_of c.args.justfile.now)) (text_of c.args.folder) (g.H.Host.told c.args.host.now).world c.in_ok-commands.commands) c.load_printed.result
    (own_printed (g.H.Host.told c.args.host.now).world c.args.ask.now c.args.flags.now c.args.environ.now.pairs (text_of c.args.folder) c.args.justfile.now (settings_of c.args.justfile.now) c.in_ok-commands.commands is (search rules) asked)
    (own_begun (g.H.Host.told c.args.host.now).world c.args.ask.now c.args.flags.now c.args.environ.now.pairs (text_of c.args.folder) c.args.justfile.now (settings_of c.args.justfile.now) c.in_ok-commands.commands is (search rules) asked)
    c.load_printed.ensures.loaded

pub returns-in-Ok-Files-clause-loaded : goal.returns-in-Ok-Files-clause-loaded
returns-in-Ok-Files-clause-loaded g c =
    let is : ◌≡◌ {A = Result Sources EnvError} (Ok sources.Files) (sources_of c.args.ask.now c.args.justfile.now) = search rules in
    run_still (LoadsOwn (g.H.Host.told c.args.host.now).world c.args.ask.now c.args.flags.now c.args.environ.now.pairs (text_of c.args.folder) c.args.justfile.now) (BeginsOwn (g.H.Host.told c.args.host.now).world c.args.ask.now c.args.flags.now c.args.environ.now.pairs (text_of c.args.folder) c.args.justfile.now) (g.H.Host.told c.args.host.now) (g.H.Host.told c.load_found.new.host) c.load_found.result
    (own_found (g.H.Host.told c.args.host.now).world c.args.ask.now c.args.flags.now c.args.environ.now.pairs (text_of c.args.folder) c.args.justfile.now (settings_of c.args.justfile.now) c.load_found.result is (search rules) c.load_found.ensures.loaded)
    c.load_found.ensures.gains c.load_found.ensures.world (inl refl)

pub returns-clause-loaded : goal.returns-clause-loaded
returns-clause-loaded g c =
    let is : ◌≡◌ {A = Result Sources EnvError} (Err c.in-Err.error) (sources_of c.args.ask.now c.args.justfile.now) = search rules in
    run_still (LoadsOwn (g.H.Host.told c.args.host.now).world c.args.ask.now c.args.flags.now c.args.environ.now.pairs (text_of c.args.folder) c.args.justfile.now) (BeginsOwn (g.H.Host.told c.args.host.now).world c.args.ask.now c.args.flags.now c.args.environ.now.pairs (text_of c.args.folder) c.args.justfile.now) (g.H.Host.told c.args.host.now) (g.H.Host.told c.args.host.now) (Err c.in-Err.error)
    (inr (own_refused (g.H.Host.told c.args.host.now).world c.args.ask.now c.args.flags.now c.args.environ.now.pairs (text_of c.args.folder) c.args.justfile.now c.in-Err.error is))
    (gains_error (g.H.Host.told c.args.host.now).entries (g.H.Host.told c.args.host.now).entries c.in-Err.error (gains_none (g.H.Host.told c.args.host.now).entries) c.in-Err.ensures.unheard) refl (inl refl)

pub returns-in_err-commands-clause-program : goal.returns-in_err-commands-clause-program
returns-in_err-commands-clause-program g c = ends_short (λ p. p ≡ (shell_program c.args.flags.now c.args.justfile.now)) (shell_program c.args.flags.now c.args.justfile.now) refl _ _ (search rules)

pub returns-in-Ok-Commands-clause-program : goal.returns-in-Ok-Commands-clause-program
returns-in-Ok-Commands-clause-program g c = c.load_printed.ensures.program

pub returns-in-Ok-Files-clause-program : goal.returns-in-Ok-Files-clause-program
returns-in-Ok-Files-clause-program g c =
    ends_found (g.H.Host.told c.args.host.now).world c.args.ask.now c.args.environ.now.pairs (text_of c.args.folder) (settings_of c.args.justfile.now) (λ p. p ≡ (shell_program c.args.flags.now c.args.justfile.now)) (shell_program c.args.flags.now c.args.justfile.now) refl (g.H.Host.told c.args.host.now).entries (g.H.Host.told c.load_found.new.host).entries c.load_found.result c.load_found.ensures.loaded c.load_found.ensures.gains

pub returns-clause-program : goal.returns-clause-program
returns-clause-program g c = ends_unheard {A = Pairs} (λ p. p ≡ (shell_program c.args.flags.now c.args.justfile.now)) (shell_program c.args.flags.now c.args.justfile.now) refl _ (Err c.in-Err.error) c.in-Err.ensures.unheard
