-- The commands are run, and their pairs kept; or one is refused.
use Rattle.std.proofs.Common.{rules, ◌≡◌, Err, refl, subst}
use Rattle.just_path.specs.Path.{text_of}
use Rattle.just_exec_work.specs.Shells.{shell}
use Rattle.just_dotenv.specs.Meaning.{Pairs}
use Rattle.just_lang_types.specs.declared.settings.Interpreter.{Interpreter}
use Rattle.just_env.specs.Commands.{RunsCommands, BeginsCommands}
use Rattle.just_env.specs.DotenvAnswers.{EndsBy}
use Rattle.just_env.specs.Loads.{PrintedPairs}
use Rattle.just_env.proofs.Owned.{begun_by_shell, printed_kept, printed_refused}
use Rattle.just_env.proofs.Running.{run_memory, run_ok, run_refused, run_short}
use Rattle.just_env.proofs.Ends.{ends_short}
use Rattle.just_env.proofs.module.load_printed.Goals as goal

pub returns-in_err-shell-clause-loaded : goal.returns-in_err-shell-clause-loaded
returns-in_err-shell-clause-loaded g c =
    run_memory (PrintedPairs (g.H.Host.told c.args.host.now).world c.args.flags.now c.args.environ.now.pairs (text_of c.args.folder) c.args.settings.now c.args.commands.now) (BeginsCommands c.args.environ.now.pairs (shell c.args.flags.now c.args.settings.now) (text_of c.args.folder) (g.H.Host.told c.args.host.now).world c.args.commands.now) (g.H.Host.told c.args.host.now) (g.H.Host.told c.args.host.now) _ refl refl (search rules) (BeginsCommands.nothing_more _ _)

pub returns-in_err-kept-in-Ok-clause-loaded : goal.returns-in_err-kept-in-Ok-clause-loaded
returns-in_err-kept-in-Ok-clause-loaded g c =
    let is : c.in_ok-shell.shell ≡ shell c.args.flags.now c.args.settings.now = search rules in
    let are : c.as_slice.result.now ≡ c.args.commands.now = search rules in
    run_short (PrintedPairs (g.H.Host.told c.args.host.now).world c.args.flags.now c.args.environ.now.pairs (text_of c.args.folder) c.args.settings.now c.args.commands.now) (BeginsCommands c.args.environ.now.pairs (shell c.args.flags.now c.args.settings.now) (text_of c.args.folder) (g.H.Host.told c.args.host.now).world c.args.commands.now) (g.H.Host.told c.args.host.now) (g.H.Host.told c.run_commands.new.host)
    (RunsCommands c.args.environ.now.pairs c.in_ok-shell.shell (text_of c.args.folder) (g.H.Host.told c.args.host.now).world c.as_slice.result.now) (BeginsCommands c.args.environ.now.pairs c.in_ok-shell.shell (text_of c.args.folder) (g.H.Host.told c.args.host.now).world c.as_slice.result.now)
    (λ cs begins. begun_by_shell (g.H.Host.told c.args.host.now).world c.args.flags.now c.args.environ.now.pairs (text_of c.args.folder) c.args.settings.now c.args.commands.now c.in_ok-shell.shell c.as_slice.result.now cs is are begins) c.in-Ok.pairs _ c.in-Ok.ensures.ran (search rules)

pub returns-in-Ok-clause-loaded : goal.returns-in-Ok-clause-loaded
returns-in-Ok-clause-loaded g c =
    let is : c.in_ok-shell.shell ≡ shell c.args.flags.now c.args.settings.now = search rules in
    let are : c.as_slice.result.now ≡ c.args.commands.now = search rules in
    run_ok (PrintedPairs (g.H.Host.told c.args.host.now).world c.args.flags.now c.args.environ.now.pairs (text_of c.args.folder) c.args.settings.now c.args.commands.now) (BeginsCommands c.args.environ.now.pairs (shell c.args.flags.now c.args.settings.now) (text_of c.args.folder) (g.H.Host.told c.args.host.now).world c.args.commands.now) (g.H.Host.told c.args.host.now) (g.H.Host.told c.run_commands.new.host)
    (RunsCommands c.args.environ.now.pairs c.in_ok-shell.shell (text_of c.args.folder) (g.H.Host.told c.args.host.now).world c.as_slice.result.now) (BeginsCommands c.args.environ.now.pairs c.in_ok-shell.shell (text_of c.args.folder) (g.H.Host.told c.args.host.now).world c.as_slice.result.now)
    (λ cs begins. begun_by_shell (g.H.Host.told c.args.host.now).world c.args.flags.now c.args.environ.now.pairs (text_of c.args.folder) c.args.settings.now c.args.commands.now c.in_ok-shell.shell c.as_slice.result.now cs is are begins) c.in-Ok.pairs c.in_ok-kept-in-Ok.kept c.in-Ok.ensures.ran
    (λ cs runs. printed_kept (g.H.Host.told c.args.host.now).world c.args.flags.now c.args.environ.now.pairs (text_of c.args.folder) c.args.settings.now c.args.commands.now c.in_ok-shell.shell c.as_slice.result.now cs is are
    c.in-Ok.pairs c.in_ok-kept-in-Ok.kept runs c.in_ok-kept-in-Ok.ensures)

pub returns-clause-loaded : goal.returns-clause-loaded
returns-clause-loaded g c =
    let is : c.in_ok-shell.shell ≡ shell c.args.flags.now c.args.settings.now = search rules in
    let are : c.as_slice.result.now ≡ c.args.commands.now = search rules in
    run_refused (PrintedPairs (g.H.Host.told c.args.host.now).world c.args.flags.now c.args.environ.now.pairs (text_of c.args.folder) c.args.settings.now c.args.commands.now) (BeginsCommands c.args.environ.now.pairs (shell c.args.flags.now c.args.settings.now) (text_of c.args.folder) (g.H.Host.told c.args.host.now).world c.args.commands.now) (g.H.Host.told c.args.host.now) (g.H.Host.told c.run_commands.new.host)
    (RunsCommands c.args.environ.now.pairs c.in_ok-shell.shell (text_of c.args.folder) (g.H.Host.told c.args.host.now).world c.as_slice.result.now) (BeginsCommands c.args.environ.now.pairs c.in_ok-shell.shell (text_of c.args.folder) (g.H.Host.told c.args.host.now).world c.as_slice.result.now)
    (λ cs begins. begun_by_shell (g.H.Host.told c.args.host.now).world c.args.flags.now c.args.environ.now.pairs (text_of c.args.folder) c.args.settings.now c.args.commands.now c.in_ok-shell.shell c.as_slice.result.now cs is are begins) c.in-Err.error c.in-Err.ensures.ran
    (λ cs runs. printed_refused (g.H.Host.told c.args.host.now).world c.args.flags.now c.args.environ.now.pairs (text_of c.args.folder) c.args.settings.now c.args.commands.now c.in_ok-shell.shell c.as_slice.result.now cs is are c.in-Err.error runs)

pub returns-in_err-shell-clause-program : goal.returns-in_err-shell-clause-program
returns-in_err-shell-clause-program g c = ends_short (λ p. p ≡ (shell c.args.flags.now c.args.settings.now).command) (shell c.args.flags.now c.args.settings.now).command refl _ _ (search rules)

pub returns-in_err-kept-in-Ok-clause-program : goal.returns-in_err-kept-in-Ok-clause-program
returns-in_err-kept-in-Ok-clause-program g c = ends_short (λ p. p ≡ (shell c.args.flags.now c.args.settings.now).command) (shell c.args.flags.now c.args.settings.now).command refl _ _ (search rules)

pub returns-clause-program : goal.returns-clause-program
returns-clause-program g c =
    subst (λ (i : Interpreter). EndsBy {A = Pairs} (λ p. p ≡ i.command) (g.H.Host.told c.run_commands.new.host).entries (Err c.in-Err.error)) c.in_ok-shell.ensures c.in-Err.ensures.program
