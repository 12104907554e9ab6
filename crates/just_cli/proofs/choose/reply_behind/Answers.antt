-- The reply stands, or another justfile is asked.
use Rattle.std.proofs.Common.{refl}
use Rattle.just_cli.specs.Taken.{laid_in}
use Rattle.just_cli.proofs.Choices.{behind_planned, behind_refused, behind_highest, behind_unlooked, behind_next}
use Rattle.just_cli.proofs.choose.reply_behind.Goals as goal

pub returns-in-Ok : goal.returns-in-Ok
returns-in-Ok g c = behind_planned _ _ (laid_in c.args.wanted c.args.environ.now c.args.laid) (g.H.Host.told c.args.host.now) _ (g.H.Host.told c.reply_of-replied.new.host) _ (rw c.in-Ok.is at c.reply_of-replied.ensures)

pub returns-then-not-falls_back : goal.returns-then-not-falls_back
returns-then-not-falls_back g c =
    behind_refused _ _ (laid_in c.args.wanted c.args.environ.now c.args.laid) (g.H.Host.told c.args.host.now) _ (g.H.Host.told c.reply_of-replied.new.host) _ _ refl _ c.falls_back.ensures (rw c.in-Err.is at c.reply_of-replied.ensures) c.if-not-falls_back.true

pub returns-in-Ok-Some : goal.returns-in-Ok-Some
returns-in-Ok-Some g c =
    behind_next _ _ (laid_in c.args.wanted c.args.environ.now c.args.laid) (g.H.Host.told c.args.host.now) _ (g.H.Host.told c.reply_of-replied.new.host) _ _ refl _ c.falls_back.ensures (rw c.in-Err.is at c.reply_of-replied.ensures) c.if-not-falls_back.false
    (g.H.Host.told c.find_fallback.new.host) c.find_fallback.ensures.world _ (rw (c.as_path-folder.ensures, c.in-Ok-Some.field-0-is) at c.in-Ok-Some.ensures.found) c.in-Ok-Some.ensures.entries (g.H.Host.told c.reply_from.new.host) _ _ c.reply_from.ensures

pub returns-in-Ok-None : goal.returns-in-Ok-None
returns-in-Ok-None g c =
    behind_highest _ _ (laid_in c.args.wanted c.args.environ.now c.args.laid) (g.H.Host.told c.args.host.now) _ (g.H.Host.told c.reply_of-replied.new.host) _ _ refl _ c.falls_back.ensures (rw c.in-Err.is at c.reply_of-replied.ensures) c.if-not-falls_back.false
    (g.H.Host.told c.find_fallback.new.host) c.find_fallback.ensures.world (rw (c.as_path-folder.ensures, c.in-Ok-None.field-0-is) at c.in-Ok-None.ensures.found) c.in-Ok-None.ensures.entries

pub returns : goal.returns
returns g c =
    behind_unlooked _ _ (laid_in c.args.wanted c.args.environ.now c.args.laid) (g.H.Host.told c.args.host.now) _ (g.H.Host.told c.reply_of-replied.new.host) _ _ refl _ c.falls_back.ensures (rw c.in-Err.is at c.reply_of-replied.ensures) c.if-not-falls_back.false
    (g.H.Host.told c.find_fallback.new.host) c.find_fallback.ensures.world c.in-Err-find_fallback.refusal _ (rw c.as_path-folder.ensures at c.in-Err-find_fallback.ensures.found) c.from.ensures c.in-Err-find_fallback.ensures.entries
