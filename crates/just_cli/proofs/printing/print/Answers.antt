-- Both are printed, or the error is told.
use Rattle.just_cli.proofs.PrintingLaws.{is_printed, is_unprinted}
use Rattle.just_cli.proofs.printing.print.Goals as goal

pub returns-in-Ok : goal.returns-in-Ok
returns-in-Ok g c = is_printed _ _ (g.H.Host.told c.args.host) (g.H.Host.told c.print_both-shown.new.host) (g.H.Host.told c.done.result.host) c.print_both-shown.ensures.world _ c.in-Ok.ensures.printed c.done.ensures

pub returns-in-Err : goal.returns-in-Err
returns-in-Err g c =
    is_unprinted _ _ (g.H.Host.told c.args.host) (g.H.Host.told c.print_both-shown.new.host) (g.H.Host.told c.fail.result.host) c.print_both-shown.ensures.world _ _ _ c.fail.ensures.failed c.new.ensures c.in-Err.ensures.unprinted c.fail.ensures.told c.fail.ensures.world
