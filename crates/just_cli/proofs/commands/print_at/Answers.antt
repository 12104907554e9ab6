-- What is printed of the project is what the command asks for; or there is no project.
use Rattle.std.proofs.Common.{refl}
use Rattle.just_cli.specs.Acts.{Looks, NoAct}
use Rattle.just_cli.specs.Commands.{PrintsIt}
use Rattle.just_cli.specs.Taken.{laid_in}
use Rattle.just_cli_texts.specs.Laid.{LaidRequest}
use Rattle.just_cli.proofs.Commanding.{project_lost, project_then, look_found, look_refused, or_prints}
use Rattle.just_cli.proofs.Planless.{prints_silent}
use Rattle.just_cli.proofs.commands.print_at.Goals as goal

pub returns-in-Err-clause-prints : goal.returns-in-Err-clause-prints
returns-in-Err-clause-prints g c = project_lost (Looks (λ now. PrintsIt c.args.config.now)) NoAct _ (g.H.Host.told c.args.host.now) _ (g.H.Host.told c.project_at.new.host) _ _ c.in-Err.ensures.project

pub returns-in-Ok-prints-clause-prints : goal.returns-in-Ok-prints-clause-prints
returns-in-Ok-prints-clause-prints g c =
    let now = g.H.Host.told c.project_at.new.host in
    let q : LaidRequest = laid_in c.in-Ok.found.0 c.args.environ.now c.in-Ok.found.1 in
    project_then (Looks (λ told. PrintsIt c.args.config.now)) NoAct _ (g.H.Host.told c.args.host.now) _ now now _ _ c.in-Ok.ensures.project _
    (look_found (PrintsIt c.args.config.now) now q _ (_, c.in-Ok-prints.ensures, refl))

pub returns-clause-prints : goal.returns-clause-prints
returns-clause-prints g c =
    let now = g.H.Host.told c.project_at.new.host in
    let q : LaidRequest = laid_in c.in-Ok.found.0 c.args.environ.now c.in-Ok.found.1 in
    project_then (Looks (λ told. PrintsIt c.args.config.now)) NoAct _ (g.H.Host.told c.args.host.now) _ now now _ _ c.in-Ok.ensures.project _
    (look_refused (PrintsIt c.args.config.now) now q _ (prints_silent _ c.args.config.now _ _ c.in-Err-prints.ensures) (or_prints c.args.config.now q _ c.in-Err-prints.ensures))
