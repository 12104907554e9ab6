-- A text that isn't printed has its error.
use Rattle.std.proofs.Common.{◌∙◌}
use Rattle.just_cli.proofs.Shown.{unshown}
use Rattle.just_cli.proofs.show.show.Goals as goal

pub returns-in-Err : goal.returns-in-Err
returns-in-Err g c =
    unshown _ (g.H.Host.told c.args.host) (g.H.Host.told c.print.new.self) (g.H.Host.told c.fail.result.host) _ c.in-Err.fault _ _ c.fail.ensures.failed c.new-in-Err.ensures c.print_error.ensures c.in-Err.ensures.own c.in-Err.ensures.never_missed c.in-Err.ensures.entries c.fail.ensures.told (c.fail.ensures.world ∙ c.print.ensures.world)
