-- A line that isn't printed has its error, and the entry of the refused print.
use Rattle.just_cli.proofs.NewJustfile.{print_refused}
use Rattle.just_cli.proofs.Shown.{text_lost}
use Rattle.just_cli.proofs.printing.tell_line.Goals as goal

pub returns-in-Err-clause-untold : goal.returns-in-Err-clause-untold
returns-in-Err-clause-untold g c =
    (c.if-quiet.false, text_lost c.in-Err.fault _ c.print_error.ensures c.in-Err.ensures.own c.in-Err.ensures.never_missed, print_refused _ _ c.in-Err.fault _ c.in-Err.ensures.entries c.print_error.ensures)
