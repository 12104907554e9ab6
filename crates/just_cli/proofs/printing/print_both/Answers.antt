-- The text is printed, and the line told beside it; or one of both isn't.
use Rattle.just_cli.proofs.PrintingLaws.{all_printed, all_unprinted, no_text}
use Rattle.just_cli.proofs.printing.print_both.Goals as goal

pub returns-in-Ok-clause-printed : goal.returns-in-Ok-clause-printed
returns-in-Ok-clause-printed g c = all_printed _ _ _ _ _ (rw c.as_str.ensures at c.in-Ok.ensures.entries) _ c.tell_beside.ensures.told

pub returns-in-Ok-clause-unprinted : goal.returns-in-Ok-clause-unprinted
returns-in-Ok-clause-unprinted g c = all_unprinted _ _ _ _ _ (rw c.as_str.ensures at c.in-Ok.ensures.entries) _ c.tell_beside.ensures.untold

pub returns-in-Err-clause-unprinted : goal.returns-in-Err-clause-unprinted
returns-in-Err-clause-unprinted g c = no_text _ _ _ _ c.in-Err.fault _ c.in-Err.ensures.entries c.print_error.ensures c.in-Err.ensures.own c.in-Err.ensures.never_missed
