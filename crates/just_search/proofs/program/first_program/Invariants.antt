-- No path so far leads to an executable file; the record gained misses alone.
use Rattle.std.proofs.Common.{◌≡◌, drop}
use Rattle.just_env.specs.Answers.{GainsMisses}
use Rattle.just_search.specs.Programs.{LooksAtProgram}
use Rattle.just_search.proofs.Along.{Along}
use Rattle.just_search.proofs.program.first_program.Given as goal

abbrev pub invariant-paths : goal.invariant-paths
invariant-paths g l = record {
  along : Along (LooksAtProgram (g.H.Host.told l.fn.host).world) l.paths (drop l.path-index l.paths);
  gains : GainsMisses (g.H.Host.told l.fn.host).entries (g.H.Host.told l.host).entries;
  world : (g.H.Host.told l.host).world ≡ (g.H.Host.told l.fn.host).world;
}
