-- The plan is told, or its error.
use Rattle.just_cli.proofs.DryLaws.{plan_told, plan_untold}
use Rattle.just_cli.proofs.dry.dry_run.Goals as goal

pub returns-in-Ok : goal.returns-in-Ok
returns-in-Ok g c = plan_told c.args.plan c.args.quiet (g.H.Host.told c.args.host) (g.H.Host.told c.tell_plan.new.host) c.in-Ok.ensures _ c.new.ensures

pub returns-in-Err : goal.returns-in-Err
returns-in-Err g c =
    plan_untold c.args.plan c.args.quiet (g.H.Host.told c.args.host) (g.H.Host.told c.tell_plan.new.host) (g.H.Host.told c.fail.result.host) _ _ _ c.fail.ensures.failed c.new-in-Err.ensures c.in-Err.ensures c.fail.ensures.told c.fail.ensures.world
