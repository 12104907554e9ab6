-- A folder is tried behind its items.
use Rattle.just_path.specs.Path.{text_of}
use Rattle.just_search.specs.Removals.{Clears}
use Rattle.just_search.proofs.Removing.{on_err, inner_tried, inner_stopped}
use Rattle.just_search.proofs.removal.remove_inner.Goals as goal

pub returns-in_err-remove_items-clause-stopped : goal.returns-in_err-remove_items-clause-stopped
returns-in_err-remove_items-clause-stopped g c =
    on_err c.from_residual.result (Clears (text_of c.args.inner) (g.H.Host.told c.args.host.now) (g.H.Host.told c.remove_items.new.host)) c.in_err-remove_items.ensures.stopped

pub returns-clause-tried : goal.returns-clause-tried
returns-clause-tried g c =
    inner_tried (text_of c.args.inner) (g.H.Host.told c.args.host.now) (g.H.Host.told c.remove_items.new.host) (g.H.Host.told c.remove_at.new.host) c.remove_at.result c.in_ok-remove_items.ensures.tried c.remove_at.ensures.tried

pub returns-clause-stopped : goal.returns-clause-stopped
returns-clause-stopped g c =
    inner_stopped (text_of c.args.inner) (g.H.Host.told c.args.host.now) (g.H.Host.told c.remove_items.new.host) (g.H.Host.told c.remove_at.new.host) c.remove_at.result c.in_ok-remove_items.ensures.tried c.remove_at.ensures.kept
