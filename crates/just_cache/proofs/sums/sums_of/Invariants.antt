-- The names so far have their sums.
use Rattle.std.proofs.Common.{◌≡◌, take}
use Rattle.just_path.specs.Path.{text_of}
use Rattle.just_cache.specs.Sums.{AreSummed}
use Rattle.just_cache.proofs.sums.sums_of.Given as goal

abbrev pub invariant-names : goal.invariant-names
invariant-names g l = record {
  summed : AreSummed (g.H.Host.told l.fn.host) (g.H.Host.told l.host) (text_of l.folder) (take l.name-index l.names) l.given.items;
  spare : g.H.Host.spare l.host ≡ g.H.Host.spare l.fn.host;
}
