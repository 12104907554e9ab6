-- The pairs of the files so far, before those of the names to come; the record gained misses alone.
use Rattle.std.proofs.Common.{◌≡◌}
use Rattle.just_path.specs.Path.{text_of}
use Rattle.just_env.specs.Answers.{GainsMisses}
use Rattle.just_env.proofs.Gathered.{Loaded}
use Rattle.just_env.proofs.files.load_files.Given as goal

abbrev pub invariant-names : goal.invariant-names
invariant-names g l = record {
  loaded : Loaded (g.H.Host.told l.fn.host).world l.environ.pairs (text_of l.folder) l.names l.name-index l.found;
  gains : GainsMisses (g.H.Host.told l.fn.host).entries (g.H.Host.told l.host).entries;
  world : (g.H.Host.told l.host).world ≡ (g.H.Host.told l.fn.host).world;
}
