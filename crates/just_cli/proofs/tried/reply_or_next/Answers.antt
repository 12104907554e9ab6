-- The answer of the justfile in a place stands, or another one is tried.
use Rattle.just_cli.proofs.Trying.{stands_planned, stands_refused, looked, unlooked}
use Rattle.just_cli.proofs.tried.reply_or_next.Goals as goal

pub returns-in-Ok-clause-tries : goal.returns-in-Ok-clause-tries
returns-in-Ok-clause-tries g c = stands_planned _ _ (g.H.Host.told c.args.host.now) _ (g.H.Host.told c.reply_at-replied.new.host) _ c.reply_at-replied.result.1 _ (rw c.in-Ok.is at c.reply_at-replied.ensures)

pub returns-then-not-falls_back-clause-tries : goal.returns-then-not-falls_back-clause-tries
returns-then-not-falls_back-clause-tries g c =
    stands_refused _ _ (g.H.Host.told c.args.host.now) _ (g.H.Host.told c.reply_at-replied.new.host) _ c.reply_at-replied.result.1 _ _ c.falls_back.ensures (rw c.in-Err.is at c.reply_at-replied.ensures) c.if-not-falls_back.true

pub returns-in-Ok-find_fallback-clause-tries : goal.returns-in-Ok-find_fallback-clause-tries
returns-in-Ok-find_fallback-clause-tries g c =
    looked _ _ (g.H.Host.told c.args.host.now) _ (g.H.Host.told c.reply_at-replied.new.host) _ c.reply_at-replied.result.1 _ _ c.falls_back.ensures (rw c.in-Err.is at c.reply_at-replied.ensures) c.if-not-falls_back.false (g.H.Host.told c.find_fallback.new.host) c.find_fallback.ensures.world _ (rw c.as_path.ensures at c.in-Ok-find_fallback.ensures.found)
    c.in-Ok-find_fallback.ensures.entries

pub returns-in-Err-find_fallback-clause-tries : goal.returns-in-Err-find_fallback-clause-tries
returns-in-Err-find_fallback-clause-tries g c =
    unlooked _ _ (g.H.Host.told c.args.host.now) _ (g.H.Host.told c.reply_at-replied.new.host) _ c.reply_at-replied.result.1 _ _ c.falls_back.ensures (rw c.in-Err.is at c.reply_at-replied.ensures) c.if-not-falls_back.false (g.H.Host.told c.find_fallback.new.host) c.find_fallback.ensures.world c.in-Err-find_fallback.refusal _
    (rw c.as_path.ensures at c.in-Err-find_fallback.ensures.found) c.from.ensures c.in-Err-find_fallback.ensures.entries
