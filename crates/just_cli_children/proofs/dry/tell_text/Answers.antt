-- It is told, or isn't; an empty one is none.
use Rattle.just_cli_children.proofs.DryLaws.{empty_told, text_told, text_untold}
use Rattle.just_cli_children.proofs.dry.tell_text.Goals as goal

pub returns-then-is_empty : goal.returns-then-is_empty
returns-then-is_empty g c = empty_told _ (g.H.Host.told c.args.host.now) (rw c.is_empty.ensures at c.if-is_empty.true)

pub returns-in-Ok : goal.returns-in-Ok
returns-in-Ok g c = text_told _ (g.H.Host.told c.args.host.now) (g.H.Host.told c.print.new.self) (rw c.is_empty.ensures at c.if-is_empty.false) c.in-Ok.ensures.entries c.print.ensures.world

pub returns-in-Err : goal.returns-in-Err
returns-in-Err g c =
    text_untold _ (g.H.Host.told c.args.host.now) (g.H.Host.told c.print.new.self) (rw c.is_empty.ensures at c.if-is_empty.false) c.in-Err.fault _ c.in-Err.ensures.entries c.print.ensures.world c.print_error.ensures c.in-Err.ensures.own c.in-Err.ensures.never_missed
