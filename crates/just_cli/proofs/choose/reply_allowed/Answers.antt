-- A name that is missing, where the words allow it.
use Rattle.just_cli.proofs.Choices.{allowed_planned, behind_allowed, behind_disallowed}
use Rattle.just_cli.proofs.choose.reply_allowed.Goals as goal

pub returns-in-Ok : goal.returns-in-Ok
returns-in-Ok g c = allowed_planned _ _ _ (g.H.Host.told c.args.host.now) (g.H.Host.told c.reply_behind.new.host) _ _ _ c.in-Ok.ensures

pub returns-then-is_allowed : goal.returns-then-is_allowed
returns-then-is_allowed g c = behind_allowed _ _ _ (g.H.Host.told c.args.host.now) (g.H.Host.told c.reply_behind.new.host) _ _ _ _ c.is_allowed.ensures c.in-Err.ensures c.if-is_allowed.true _ c.plan_nothing.ensures

pub returns-else-is_allowed : goal.returns-else-is_allowed
returns-else-is_allowed g c = behind_disallowed _ _ _ (g.H.Host.told c.args.host.now) (g.H.Host.told c.reply_behind.new.host) _ _ _ _ c.is_allowed.ensures c.in-Err.ensures c.if-is_allowed.false
