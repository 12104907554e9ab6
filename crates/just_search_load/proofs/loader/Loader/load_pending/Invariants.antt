-- Whatever the stack comes to, all comes to; each turn loads one source, and there are numbers for so many alone.
use Rattle.std.proofs.Common.{◌≡◌, ◌-◌, length}
use Rattle.just_search_load.specs.Loads.{IsGrown, to_load}
use Rattle.just_search_load.specs.Turns.{Continues}
use Rattle.just_search_load.specs.Shows.{sources_of}
use Rattle.just_env.specs.Answers.{GainsMisses}
use Rattle.just_search_load.proofs.loader.Loader.load_pending.Given as goal

abbrev pub invariant-paths : goal.invariant-paths
invariant-paths g l = record {
  continues : Continues (g.H.Host.told l.fn.host).world l.environ.pairs (sources_of l.fn.self) (to_load l.fn.pending.items) (sources_of l.self) (to_load l.pending.items);
  grown : IsGrown (sources_of l.fn.self) (sources_of l.self);
  gains : GainsMisses (g.H.Host.told l.fn.host).entries (g.H.Host.told l.host).entries;
  world : (g.H.Host.told l.host).world ≡ (g.H.Host.told l.fn.host).world;
}

abbrev pub decreases-paths : goal.decreases-paths
decreases-paths g l = 4294967296 - length (sources_of l.self)
