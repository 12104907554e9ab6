-- The items so far were tried.
use Rattle.just_path.specs.Path.{text_of}
use Rattle.just_search.specs.Removals.{TriesNested}
use Rattle.just_search.proofs.Removing.{Turned}
use Rattle.just_search.proofs.removal.empty_folder.Given as goal

abbrev pub invariant-items : goal.invariant-items
invariant-items g l = record {
  turned : Turned (TriesNested (text_of l.folder)) (text_of l.folder) (g.H.Host.told l.fn.host) l.item-items l.item-index (g.H.Host.told l.host);
}
