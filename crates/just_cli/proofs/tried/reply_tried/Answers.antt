-- A name that is missing, where the words allow it.
use Rattle.just_cli.proofs.Trying.{tries_planned, tries_allowed, tries_refused}
use Rattle.just_cli.proofs.tried.reply_tried.Goals as goal

pub returns-in-Ok : goal.returns-in-Ok
returns-in-Ok g c = tries_planned _ _ _ _ _ _ c.in-Ok.ensures

pub returns-then-is_allowed : goal.returns-then-is_allowed
returns-then-is_allowed g c = tries_allowed _ _ _ _ _ _ _ c.is_allowed.ensures c.in-Err.ensures c.if-is_allowed.true _ c.plan_nothing.ensures

pub returns-else-is_allowed : goal.returns-else-is_allowed
returns-else-is_allowed g c = tries_refused _ _ _ _ _ _ _ c.is_allowed.ensures c.in-Err.ensures c.if-is_allowed.false
