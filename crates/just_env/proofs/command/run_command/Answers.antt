-- The child is run to its end, and its output read; or it isn't.
use Rattle.std.proofs.Common.{rules, None, Err, ◌≡◌, [], ◌++◌, refl, ap, sym, ◌∙◌}
use Rattle.std.proofs.lemmas.List.{append-nil}
use Rattle.just_path.specs.Path.{text_of}
use Rattle.just_host_record.specs.World.{Touched, FaultLeaves, LeftAlone}
use Rattle.just_host_record.specs.Record.{refused}
use Rattle.just_host_record.specs.declared.entry.HostFault.TheVariants as fault
use Rattle.just_host_record.specs.declared.entry.Spec.{Spec}
use Rattle.just_env.specs.declared.env_error.EnvError.TheVariants as error
use Rattle.just_env.specs.Captures.{Capture, entries_of_capture}
use Rattle.just_env.specs.Commands.{command_spec, IsCaptured, RunsCommand, BeginsCommand}
use Rattle.just_env.proofs.Commanding.{ran_one, ran_none}
use Rattle.just_env.proofs.Running.{run_memory}
use Rattle.just_env.proofs.Ends.{ends_short, ends_unheard}
use Rattle.just_env.proofs.command.run_command.Goals as goal

pub returns-in_err-spec-clause-ran : goal.returns-in_err-spec-clause-ran
returns-in_err-spec-clause-ran g c =
    run_memory (RunsCommand c.args.environ.now.pairs c.args.shell.now (text_of c.args.folder) (g.H.Host.told c.args.host.now).world c.args.command.now) (BeginsCommand c.args.shell.now (text_of c.args.folder) (g.H.Host.told c.args.host.now).world c.args.command.now) (g.H.Host.told c.args.host.now) (g.H.Host.told c.args.host.now) _ refl refl (search rules) BeginsCommand.nothing

pub returns-in_err-named-clause-ran : goal.returns-in_err-named-clause-ran
returns-in_err-named-clause-ran g c =
    run_memory (RunsCommand c.args.environ.now.pairs c.args.shell.now (text_of c.args.folder) (g.H.Host.told c.args.host.now).world c.args.command.now) (BeginsCommand c.args.shell.now (text_of c.args.folder) (g.H.Host.told c.args.host.now).world c.args.command.now) (g.H.Host.told c.args.host.now) (g.H.Host.told c.args.host.now) _ refl refl (search rules) BeginsCommand.nothing

pub returns-in-Ok-clause-ran : goal.returns-in-Ok-clause-ran
returns-in-Ok-clause-ran g c =
    let k : Capture = record { spec = c.in_ok-spec.spec; input = []; status = c.in-Ok.ending; output = c.in-Ok.output.items; signal = None; after = (g.H.Host.told c.capture.new.self).world } in
    let is : c.in_ok-spec.spec ≡ command_spec c.args.shell.now (text_of c.args.folder) c.args.command.now = search rules in
    let touched : Touched (g.H.Host.told c.args.host.now).world (g.H.Host.told c.capture.new.self).world = search rules in
    let alone : LeftAlone (g.H.Host.told c.args.host.now).world (g.H.Host.told c.capture.new.self).world c.in_ok-spec.spec = search rules in
    let captured : IsCaptured c.args.shell.now (text_of c.args.folder) (g.H.Host.told c.args.host.now).world c.args.command.now k = record { spec = is; unfed = refl; unsignalled = refl; left = (touched, alone) } in
    let gained : (g.H.Host.told c.capture.new.self).entries ≡ (g.H.Host.told c.args.host.now).entries ++ entries_of_capture k = search rules in
    ran_one c.args.environ.now.pairs c.args.shell.now (text_of c.args.folder) (g.H.Host.told c.args.host.now) (g.H.Host.told c.capture.new.self) c.args.command.now k captured refl gained c.pairs_of_output.result (search rules) c.pairs_of_output.ensures.unheard

pub returns-in-Err-NoMemory-clause-ran : goal.returns-in-Err-NoMemory-clause-ran
returns-in-Err-NoMemory-clause-ran g c =
    let world : (g.H.Host.told c.capture.new.self).world ≡ (g.H.Host.told c.args.host.now).world = search rules in
    let entries : (g.H.Host.told c.capture.new.self).entries ≡ (g.H.Host.told c.args.host.now).entries ++ [] = search rules in
    run_memory (RunsCommand c.args.environ.now.pairs c.args.shell.now (text_of c.args.folder) (g.H.Host.told c.args.host.now).world c.args.command.now) (BeginsCommand c.args.shell.now (text_of c.args.folder) (g.H.Host.told c.args.host.now).world c.args.command.now) (g.H.Host.told c.args.host.now) (g.H.Host.told c.capture.new.self) (Err error.NoMemory) world (entries ∙ append-nil (g.H.Host.told c.args.host.now).entries) refl BeginsCommand.nothing

pub returns-in-Err-Failed-clause-ran : goal.returns-in-Err-Failed-clause-ran
returns-in-Err-Failed-clause-ran g c =
    let leaves : FaultLeaves (g.H.Host.told c.args.host.now).world (g.H.Host.told c.capture.new.self).world (fault.Failed c.in-Err-Failed.call) = search rules in
    let entries : (g.H.Host.told c.capture.new.self).entries ≡ (g.H.Host.told c.args.host.now).entries ++ refused c.in_ok-spec.spec.program (fault.Failed c.in-Err-Failed.call) = search rules in
    ran_none c.args.environ.now.pairs c.args.shell.now (text_of c.args.folder) (g.H.Host.told c.args.host.now) (g.H.Host.told c.capture.new.self) c.args.command.now (fault.Failed c.in-Err-Failed.call) c.in_ok-named.named _
    c.in_ok-spec.spec.program (search rules) (search rules) (search rules) leaves entries

pub returns-clause-ran : goal.returns-clause-ran
returns-clause-ran g c =
    let leaves : FaultLeaves (g.H.Host.told c.args.host.now).world (g.H.Host.told c.capture.new.self).world (fault.Missed c.in-Err-Missed.miss) = search rules in
    let entries : (g.H.Host.told c.capture.new.self).entries ≡ (g.H.Host.told c.args.host.now).entries ++ refused c.in_ok-spec.spec.program (fault.Missed c.in-Err-Missed.miss) = search rules in
    ran_none c.args.environ.now.pairs c.args.shell.now (text_of c.args.folder) (g.H.Host.told c.args.host.now) (g.H.Host.told c.capture.new.self) c.args.command.now (fault.Missed c.in-Err-Missed.miss) c.in_ok-named.named _
    c.in_ok-spec.spec.program (search rules) (search rules) (search rules) leaves entries

pub returns-in_err-spec-clause-program : goal.returns-in_err-spec-clause-program
returns-in_err-spec-clause-program g c = ends_short (λ p. p ≡ c.args.shell.now.command) c.args.shell.now.command refl _ _ (search rules)

pub returns-in_err-named-clause-program : goal.returns-in_err-named-clause-program
returns-in_err-named-clause-program g c = ends_short (λ p. p ≡ c.args.shell.now.command) c.args.shell.now.command refl _ _ (search rules)

pub returns-in-Ok-clause-program : goal.returns-in-Ok-clause-program
returns-in-Ok-clause-program g c = ends_unheard (λ p. p ≡ c.args.shell.now.command) c.args.shell.now.command refl _ c.pairs_of_output.result c.pairs_of_output.ensures.unheard

pub returns-in-Err-NoMemory-clause-program : goal.returns-in-Err-NoMemory-clause-program
returns-in-Err-NoMemory-clause-program g c = (c.args.shell.now.command, refl, (g.H.Host.told c.capture.new.self).entries, sym (append-nil (g.H.Host.told c.capture.new.self).entries))

pub returns-in-Err-Failed-clause-program : goal.returns-in-Err-Failed-clause-program
returns-in-Err-Failed-clause-program g c = (c.in_ok-spec.spec.program, ap (λ (s : Spec). s.program) c.in_ok-spec.ensures, (g.H.Host.told c.args.host.now).entries, search rules)

pub returns-clause-program : goal.returns-clause-program
returns-clause-program g c = (c.in_ok-spec.spec.program, ap (λ (s : Spec). s.program) c.in_ok-spec.ensures, (g.H.Host.told c.args.host.now).entries, search rules)
