-- A folder is tried behind its items.
use Rattle.just_path.specs.Path.{text_of}
use Rattle.just_search.specs.Removals.{Clears}
use Rattle.just_search.proofs.Removing.{on_err, folder_tried, folder_stopped}
use Rattle.just_search.proofs.removal.remove_folder.Goals as goal

pub returns-in_err-empty_folder-clause-stopped : goal.returns-in_err-empty_folder-clause-stopped
returns-in_err-empty_folder-clause-stopped g c =
    on_err c.from_residual.result (Clears (text_of c.args.folder) (g.H.Host.told c.args.host.now) (g.H.Host.told c.empty_folder.new.host)) c.in_err-empty_folder.ensures.stopped

pub returns-clause-tried : goal.returns-clause-tried
returns-clause-tried g c =
    folder_tried (text_of c.args.folder) (g.H.Host.told c.args.host.now) (g.H.Host.told c.empty_folder.new.host) (g.H.Host.told c.remove_at.new.host) c.remove_at.result c.in_ok-empty_folder.ensures.tried c.remove_at.ensures.tried

pub returns-clause-stopped : goal.returns-clause-stopped
returns-clause-stopped g c =
    folder_stopped (text_of c.args.folder) (g.H.Host.told c.args.host.now) (g.H.Host.told c.empty_folder.new.host) (g.H.Host.told c.remove_at.new.host) c.remove_at.result c.in_ok-empty_folder.ensures.tried c.remove_at.ensures.kept
