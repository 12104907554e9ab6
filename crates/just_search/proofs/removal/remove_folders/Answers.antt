-- A folder is removed, or memory is wanting for it.
use Rattle.just_path.specs.Path.{text_of}
use Rattle.just_search.specs.Removals.{InTurn}
use Rattle.just_search.proofs.Removing.{folders_more, folders_tried, folders_removed, all_stopped}
use Rattle.just_search.proofs.removal.remove_folders.Goals as goal

pub folders-init : goal.folders-init
folders-init g c = record { tried = InTurn.none }

pub returns-in_err-remove_folder-clause-stopped : goal.returns-in_err-remove_folder-clause-stopped
returns-in_err-remove_folder-clause-stopped g c =
    all_stopped (g.H.Host.told c.args.host.now) (g.H.Host.told c.folders.host) (g.H.Host.told c.remove_folder.new.host) c.args.folders.now
    c.folders.folder-index c.folder-item.result (text_of c.as_path.result) c.folders-test.true c.folder-item.is c.as_path.ensures c.folders.invariant.tried c.from_residual.result c.in_err-remove_folder.ensures.stopped

pub folders-preserved : goal.folders-preserved
folders-preserved g c = record {
  tried = folders_more (g.H.Host.told c.args.host.now) (g.H.Host.told c.folders.host) (g.H.Host.told c.remove_folder.new.host) c.args.folders.now
      c.folders.folder-index c.folder-item.result (text_of c.as_path.result) c.folders-test.true c.folder-item.is c.as_path.ensures c.folders.invariant.tried c.in_ok-remove_folder.ensures.tried;
}

pub returns-clause-removed : goal.returns-clause-removed
returns-clause-removed g c = folders_removed (g.H.Host.told c.args.host.now) c.args.folders.now c.folders.folder-index (g.H.Host.told c.folders.host) c.folders-test.false c.folders.invariant.tried

pub returns-clause-tried : goal.returns-clause-tried
returns-clause-tried g c = folders_tried (g.H.Host.told c.args.host.now) c.args.folders.now c.folders.folder-index (g.H.Host.told c.folders.host) c.folders-test.false c.folders.invariant.tried
