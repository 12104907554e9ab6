-- The line is told; or it isn't.
use Rattle.just_cli.proofs.CleaningLaws.{told_of, no_line, untold_of}
use Rattle.just_cli.proofs.clean.tell_cleaned.Goals as goal

pub returns-in-Err-clause-untold : goal.returns-in-Err-clause-untold
returns-in-Err-clause-untold g c = no_line _ _

pub returns-in-Ok-tell_line-clause-told : goal.returns-in-Ok-tell_line-clause-told
returns-in-Ok-tell_line-clause-told g c = told_of _ _ _ _ _ _ c.as_str.ensures.value c.in-Ok.ensures c.in-Ok-tell_line.ensures.told

pub returns-clause-untold : goal.returns-clause-untold
returns-clause-untold g c = let untold = c.in-Err-tell_line.ensures.untold in (untold_of _ _ untold.0 untold.1, untold.2)
