-- The child ends well, or the error is told.
use Rattle.just_cli.proofs.DryLaws.{invoked_well, invoked_ill}
use Rattle.just_cli.proofs.invoke.invoke.Goals as goal

pub returns-in-Ok : goal.returns-in-Ok
returns-in-Ok g c = invoked_well _ _ (g.H.Host.told c.args.host) (g.H.Host.told c.run_alone.new.host) (g.H.Host.told c.done.result.host) _ c.in-Ok.ensures c.done.ensures

pub returns-in-Err : goal.returns-in-Err
returns-in-Err g c =
    invoked_ill _ _ (g.H.Host.told c.args.host) (g.H.Host.told c.run_alone.new.host) (g.H.Host.told c.fail.result.host) _ _ _ c.fail.ensures.failed c.new.ensures c.in-Err.ensures c.fail.ensures.told c.fail.ensures.world
