-- It is written, and told of; or why it isn't is the error that is told.
use Rattle.just_cli.proofs.NewJustfile.{unwritten_end, written_end}
use Rattle.just_cli.proofs.init.write_justfile.Goals as goal

pub returns-in-Ok : goal.returns-in-Ok
returns-in-Ok g c = written_end _ _ _ (g.H.Host.told c.args.host) (g.H.Host.told c.write.new.host) (g.H.Host.told c.done.result.host) _ c.in-Ok.ensures.written c.done.ensures

pub returns-in-Err : goal.returns-in-Err
returns-in-Err g c =
    unwritten_end _ _ _ (g.H.Host.told c.args.host) (g.H.Host.told c.write.new.host) (g.H.Host.told c.fail.result.host) _ _ _ c.fail.ensures.failed c.new.ensures c.in-Err.ensures.unwritten.0 c.in-Err.ensures.unwritten.1 c.fail.ensures.told c.fail.ensures.world
