-- What its project answers is what the justfile in a place answers; or there is no project.
use Rattle.std.proofs.Common.{refl}
use Rattle.just_cli.proofs.Chain.{place_unasked, place_asked}
use Rattle.just_cli.proofs.tried.reply_at.Goals as goal

pub returns-in-Err : goal.returns-in-Err
returns-in-Err g c = place_unasked _ _ _ (g.H.Host.told c.args.host.now) _ _ _ _ c.in-Err.ensures.project

pub returns : goal.returns
returns g c = place_asked _ _ _ (g.H.Host.told c.args.host.now) _ (g.H.Host.told c.project_at.new.host) (g.H.Host.told c.reply_of-replied.new.host) _ _ c.in-Ok.ensures.project _ refl _ c.reply_of-replied.ensures
