-- No folder so far has a candidate, none is the ceiling, and the record stays.
use Rattle.std.proofs.Common.{◌≡◌, length}
use Rattle.just_path.specs.Ancestors.{ancestors_left}
use Rattle.just_search.specs.Climb.{up_to, LooksIn}
use Rattle.just_search.proofs.Along.{Along}
use Rattle.just_search.proofs.climb.climb.Given as goal

abbrev pub invariant-folders : goal.invariant-folders
invariant-folders g l = record {
  along : Along (LooksIn (g.H.Host.told l.fn.host).world l.wanted) (up_to l.ceiling (ancestors_left l.fn.folders)) (up_to l.ceiling (ancestors_left l.folders));
  entries : (g.H.Host.told l.host).entries ≡ (g.H.Host.told l.fn.host).entries;
  world : (g.H.Host.told l.host).world ≡ (g.H.Host.told l.fn.host).world;
}

abbrev pub decreases-folders : goal.decreases-folders
decreases-folders g l = length (ancestors_left l.folders)
