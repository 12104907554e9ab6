-- The child is started, waited for and settled; or one of these is refused.
use Rattle.just_cli_children.specs.Children.{RunsAlone}
use Rattle.std.proofs.Common.{refl}
use Rattle.just_cli_children.proofs.ChildLaws.{unstarted_so, waited_well, waited_ill}
use Rattle.just_cli_children.proofs.run.run_alone.Goals as goal

pub returns-then-is_err : goal.returns-then-is_err
returns-then-is_err g c = RunsAlone.no_memory c.room.ensures.entries c.room.ensures.world refl

pub returns-in-Err : goal.returns-in-Err
returns-in-Err g c =
    unstarted_so c.args.child (g.H.Host.told c.args.host.now) (g.H.Host.told c.room.new.self) c.room.ensures.entries c.room.ensures.world (g.H.Host.told c.start.new.self) c.requires _ _ c.in-Err.ensures.fault c.in-Err.ensures.entries c.in-Err.ensures.leaves
    c.start_error.ensures

pub returns-in-Ok-settle : goal.returns-in-Ok-settle
returns-in-Ok-settle g c =
    waited_well c.args.child (g.H.Host.told c.args.host.now) (g.H.Host.told c.room.new.self) c.room.ensures.entries c.room.ensures.world (g.H.Host.told c.start.new.self) (g.H.Host.told c.settle.new.self) _ _ _ _ c.in-Ok.ensures.number c.number-number.ensures c.wait.ensures
    c.in-Ok.ensures.entries c.in-Ok.ensures.leaves c.settle.ensures.entries c.settle.ensures.touched _ _ c.in-Ok-settle.ensures.answer c.ended_so.ensures

pub returns : goal.returns
returns g c =
    waited_ill c.args.child (g.H.Host.told c.args.host.now) (g.H.Host.told c.room.new.self) c.room.ensures.entries c.room.ensures.world (g.H.Host.told c.start.new.self) (g.H.Host.told c.settle.new.self) _ _ _ _ c.in-Ok.ensures.number c.number-number.ensures c.wait.ensures
    c.in-Ok.ensures.entries c.in-Ok.ensures.leaves c.settle.ensures.entries c.settle.ensures.touched _ _ c.in-Err-settle.ensures.answer c.invoke_error.ensures
