-- The child is run to its end, and its answer read; or it isn't.
use Rattle.std.proofs.Common.{rules, ◌≡◌, ◌++◌, None, refl}
use Rattle.just_path.specs.Path.{text_of}
use Rattle.just_host_record.specs.Record.{refused}
use Rattle.just_host_record.specs.World.{Touched, LeftAlone}
use Rattle.just_env.specs.Captures.{Capture, entries_of_capture}
use Rattle.just_env.specs.Commands.{command_spec}
use Rattle.just_cli_children.specs.Choosers.{IsChosenBy}
use Rattle.just_cli_children.proofs.ChooserLaws.{ran_memory, ran_one, ran_none}
use Rattle.just_cli_children.proofs.chooser.choose.Goals as goal

pub returns-in_err-spec : goal.returns-in_err-spec
returns-in_err-spec g c = ran_memory c.args.shell.now (text_of c.args.folder) c.args.chooser c.args.input.now (g.H.Host.told c.args.host.now) (g.H.Host.told c.args.host.now) _ refl refl (search rules)

pub returns-in_err-program : goal.returns-in_err-program
returns-in_err-program g c = ran_memory c.args.shell.now (text_of c.args.folder) c.args.chooser c.args.input.now (g.H.Host.told c.args.host.now) (g.H.Host.told c.args.host.now) _ refl refl (search rules)

pub returns-in_err-arguments : goal.returns-in_err-arguments
returns-in_err-arguments g c = ran_memory c.args.shell.now (text_of c.args.folder) c.args.chooser c.args.input.now (g.H.Host.told c.args.host.now) (g.H.Host.told c.args.host.now) _ refl refl (search rules)

pub returns-in-Ok : goal.returns-in-Ok
returns-in-Ok g c =
    let after = g.H.Host.told c.capture.new.self in
    let k : Capture = record { spec = c.in_ok-spec.spec; input = c.args.input.now; status = c.in-Ok.ending; output = c.in-Ok.printed.items; signal = None; after = after.world } in
    let is : c.in_ok-spec.spec ≡ command_spec c.args.shell.now (text_of c.args.folder) c.args.chooser = search rules in
    let touched : Touched (g.H.Host.told c.args.host.now).world after.world = search rules in
    let alone : LeftAlone (g.H.Host.told c.args.host.now).world after.world c.in_ok-spec.spec = search rules in
    let chosen : IsChosenBy c.args.shell.now (text_of c.args.folder) (g.H.Host.told c.args.host.now).world c.args.chooser c.args.input.now k = record { spec = is; fed = refl; unsignalled = refl; left = (touched, alone) } in
    let gained : after.entries ≡ (g.H.Host.told c.args.host.now).entries ++ entries_of_capture k = search rules in
    ran_one c.args.shell.now (text_of c.args.folder) c.args.chooser c.args.input.now (g.H.Host.told c.args.host.now) after k chosen gained refl _ (rw c.as_slice-in-Ok.ensures.value at c.words_of_code.ensures.words) (rw c.as_slice-in-Ok.ensures.value at c.words_of_code.ensures.refused) c.words_of_code.ensures.silent c.words_of_code.ensures.captured

pub returns : goal.returns
returns g c =
    ran_none c.args.shell.now (text_of c.args.folder) c.args.chooser c.args.input.now (g.H.Host.told c.args.host.now) (g.H.Host.told c.capture.new.self) c.in-Err.fault _ (rw c.as_bytes.ensures.value at c.in-Err.ensures.fault) (search rules) c.in-Err.ensures.leaves (search rules)
