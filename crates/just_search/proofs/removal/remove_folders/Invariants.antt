-- The folders so far were tried.
use Rattle.std.proofs.Common.{take}
use Rattle.just_search.specs.Removals.{InTurn, TriesFolder}
use Rattle.just_search.proofs.removal.remove_folders.Given as goal

abbrev pub invariant-folders : goal.invariant-folders
invariant-folders g l = record {
  tried : InTurn TriesFolder (g.H.Host.told l.fn.host) (take l.folder-index l.folders) (g.H.Host.told l.host);
}
