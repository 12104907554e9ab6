-- The folders so far have no file of the names; the record gained misses alone.
use Rattle.std.proofs.Common.{◌≡◌, length}
use Rattle.just_path.specs.Path.{text_of}
use Rattle.just_path.specs.Ancestors.{ancestors_of, ancestors_left}
use Rattle.just_env.specs.Answers.{GainsMisses}
use Rattle.just_env.specs.Files.{LoadsUnder}
use Rattle.just_env.proofs.Climbs.{Along}
use Rattle.just_env.proofs.climb.climb.Given as goal

abbrev pub invariant-folders : goal.invariant-folders
invariant-folders g l = record {
  along : Along (LoadsUnder (g.H.Host.told l.fn.host).world l.environ.pairs l.names) (ancestors_of (text_of l.fn.start)) (ancestors_left l.folders);
  gains : GainsMisses (g.H.Host.told l.fn.host).entries (g.H.Host.told l.host).entries;
  world : (g.H.Host.told l.host).world ≡ (g.H.Host.told l.fn.host).world;
}

abbrev pub decreases-folders : goal.decreases-folders
decreases-folders g l = length (ancestors_left l.folders)
