-- The answer is that of the justfiles that are tried from the first place on.
use Rattle.just_cli.proofs.Trying.{reaches_itself, reached, reaches_next}
use Rattle.just_cli.proofs.tried.reply_from.Goals as goal

pub places-init : goal.places-init
places-init g c = reaches_itself _ _ _ _

pub returns-in-Ok : goal.returns-in-Ok
returns-in-Ok g c = reached _ _ _ _ _ _ _ _ _ c.places.invariant _ c.in-Ok.ensures.tries

pub returns-in-None : goal.returns-in-None
returns-in-None g c = reached _ _ _ _ _ _ _ _ _ c.places.invariant _ (rw c.in-None.is at c.in-Err.ensures.tries)

pub places-preserved : goal.places-preserved
places-preserved g c = reaches_next _ _ _ _ _ _ _ _ _ c.places.invariant _ (rw c.in-Some.is at c.in-Err.ensures.tries)
