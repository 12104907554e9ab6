-- The line is told, where there is one; else nothing is.
use Rattle.just_cli.proofs.PrintingLaws.{beside_told, beside_untold, nothing_beside}
use Rattle.just_cli.proofs.printing.tell_beside.Goals as goal

pub returns-in-Some-clause-told : goal.returns-in-Some-clause-told
returns-in-Some-clause-told g c = beside_told _ _ _ _ _ _ c.in-Some.is (rw c.as_str.ensures at c.tell_line.ensures.told)

pub returns-in-Some-clause-untold : goal.returns-in-Some-clause-untold
returns-in-Some-clause-untold g c = beside_untold _ _ _ _ _ _ c.in-Some.is c.tell_line.ensures.untold

pub returns-in-None-clause-told : goal.returns-in-None-clause-told
returns-in-None-clause-told g c = nothing_beside _ _ _ c.in-None.is
