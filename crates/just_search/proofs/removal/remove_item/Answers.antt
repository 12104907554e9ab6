-- An item that may be removed is tried; another is passed.
use Rattle.std.proofs.Common.{rules, refl}
use Rattle.just_path.specs.Path.{text_of}
use Rattle.just_search.specs.Removals.{Clears, TriesItem}
use Rattle.just_search.proofs.Removing.{on_err, item_tried, kept_clears}
use Rattle.just_search.proofs.removal.remove_item.Goals as goal

pub returns-in_err-path-clause-stopped : goal.returns-in_err-path-clause-stopped
returns-in_err-path-clause-stopped g c = on_err c.from_residual.result (Clears (text_of c.args.folder) (g.H.Host.told c.args.host.now) (g.H.Host.told c.args.host.now)) Clears.nothing

pub returns-in-Some-clause-tried : goal.returns-in-Some-clause-tried
returns-in-Some-clause-tried g c =
    item_tried (text_of c.args.folder) c.in-Some.path c.args.item.now (g.H.Host.told c.args.host.now) (g.H.Host.told c.remove_at.new.host) (search rules) c.remove_at.result (rw c.as_path.ensures at c.remove_at.ensures.tried)

pub returns-in-Some-clause-stopped : goal.returns-in-Some-clause-stopped
returns-in-Some-clause-stopped g c = kept_clears (text_of c.args.folder) (g.H.Host.told c.args.host.now) (g.H.Host.told c.remove_at.new.host) c.remove_at.result c.remove_at.ensures.kept

pub returns-in-None-clause-tried : goal.returns-in-None-clause-tried
returns-in-None-clause-tried g c = TriesItem.passed (search rules) refl
