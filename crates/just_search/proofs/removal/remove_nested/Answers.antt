-- An item that may be removed is tried, a folder with its items; another is passed.
use Rattle.std.proofs.Common.{rules, sym, ◌∙◌, refl}
use Rattle.just_path.specs.Path.{text_of}
use Rattle.just_search.specs.Removals.{Clears, TriesNested}
use Rattle.just_search.proofs.Removing.{on_err, kept_clears, nested_tried, nested_emptied, nested_stopped}
use Rattle.just_search.proofs.removal.remove_nested.Goals as goal

pub returns-in_err-path-clause-stopped : goal.returns-in_err-path-clause-stopped
returns-in_err-path-clause-stopped g c = on_err c.from_residual.result (Clears (text_of c.args.folder) (g.H.Host.told c.args.host.now) (g.H.Host.told c.args.host.now)) Clears.nothing

pub returns-then-is_folder-clause-tried : goal.returns-then-is_folder-clause-tried
returns-then-is_folder-clause-tried g c =
    nested_emptied (text_of c.args.folder) c.in-Some.path c.args.item.now (g.H.Host.told c.args.host.now) (g.H.Host.told c.remove_inner.new.host) (search rules) c.remove_inner.result (sym c.is_folder.ensures ∙ c.if-is_folder.true) (rw c.as_path.ensures at c.remove_inner.ensures.tried)

pub returns-then-is_folder-clause-stopped : goal.returns-then-is_folder-clause-stopped
returns-then-is_folder-clause-stopped g c =
    nested_stopped (text_of c.args.folder) c.in-Some.path c.args.item.now (g.H.Host.told c.args.host.now) (g.H.Host.told c.remove_inner.new.host) (search rules) c.remove_inner.result (rw c.as_path.ensures at c.remove_inner.ensures.stopped)

pub returns-in-Some-clause-tried : goal.returns-in-Some-clause-tried
returns-in-Some-clause-tried g c =
    nested_tried (text_of c.args.folder) c.in-Some.path c.args.item.now (g.H.Host.told c.args.host.now) (g.H.Host.told c.remove_at.new.host) (search rules) c.remove_at.result (sym c.is_folder.ensures ∙ c.if-is_folder.false) (rw c.as_path-else-is_folder.ensures at c.remove_at.ensures.tried)

pub returns-in-Some-clause-stopped : goal.returns-in-Some-clause-stopped
returns-in-Some-clause-stopped g c = kept_clears (text_of c.args.folder) (g.H.Host.told c.args.host.now) (g.H.Host.told c.remove_at.new.host) c.remove_at.result c.remove_at.ensures.kept

pub returns-clause-tried : goal.returns-clause-tried
returns-clause-tried g c = TriesNested.passed (search rules) refl
