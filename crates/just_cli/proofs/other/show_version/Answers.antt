-- The line is printed, or memory is wanting for it.
use Rattle.std.proofs.Common.{refl}
use Rattle.just_cli.proofs.Shown.{shown_as, unprinted}
use Rattle.just_cli.proofs.other.show_version.Goals as goal

pub returns-in-Ok : goal.returns-in-Ok
returns-in-Ok g c = shown_as _ _ _ _ _ _ c.as_str.ensures c.in-Ok.ensures c.show.ensures

pub returns-in-Err : goal.returns-in-Err
returns-in-Err g c = unprinted _ (g.H.Host.told c.args.host) (g.H.Host.told c.fail.result.host) _ _ _ c.fail.ensures.failed c.new.ensures refl c.fail.ensures.told c.fail.ensures.world
