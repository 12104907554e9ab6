-- What was found so far, before what the paths to come give; the record gained misses alone.
use Rattle.std.proofs.Common.{◌≡◌}
use Rattle.just_search_load.specs.Named.{IfPresent}
use Rattle.just_env.specs.Answers.{GainsMisses}
use Rattle.just_search_load.proofs.Gathered.{Added}
use Rattle.just_search_load.proofs.present.add_all_present.Given as goal

abbrev pub invariant-paths : goal.invariant-paths
invariant-paths g l = record {
  added : Added (IfPresent (g.H.Host.told l.fn.host).world) l.paths l.path-index l.fn.found.items l.found.items;
  gains : GainsMisses (g.H.Host.told l.fn.host).entries (g.H.Host.told l.host).entries;
  world : (g.H.Host.told l.host).world ≡ (g.H.Host.told l.fn.host).world;
}
