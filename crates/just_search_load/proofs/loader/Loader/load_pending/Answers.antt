-- A turn goes on from what was loaded; the last one ends it, and so does a refusal.
use Rattle.std.proofs.Common.{◌∙◌}
use Rattle.just_search_load.specs.Loads.{to_load}
use Rattle.just_search_load.specs.Shows.{sources_of}
use Rattle.just_search_load.proofs.Growing.{grown_then}
use Rattle.just_search_load.proofs.Leading.{continues_next, continues_end, continues_refused}
use Rattle.just_env.proofs.Laws.{misses_then}
use Rattle.just_search_load.proofs.loader.Loader.load_pending.Goals as goal

pub paths-preserved : goal.paths-preserved
paths-preserved g c =
    let next = rw c.in-Some.is at c.in_ok-path.ensures in
    record {
      continues = continues_next (g.H.Host.told c.args.host.now).world c.args.environ.now.pairs _ (sources_of c.args.self.now) (sources_of c.paths.self) (sources_of c.load_next.new.self) (to_load c.args.pending.items) c.paths.pending.items (to_load c.load_next.new.pending.items) _ _ c.paths.invariant.world c.paths.invariant.continues next.2 c.in-Ok.ensures.turns;
      grown = grown_then _ _ _ c.paths.invariant.grown c.in-Ok.ensures.grown;
      gains = misses_then _ _ _ c.paths.invariant.gains c.in-Ok.ensures.gains;
      world = c.load_next.ensures.world ∙ c.paths.invariant.world;
    }

pub returns-in-Err-clause-ends : goal.returns-in-Err-clause-ends
returns-in-Err-clause-ends g c =
    let next = rw c.in-Some.is at c.in_ok-path.ensures in
    continues_refused (g.H.Host.told c.args.host.now).world c.args.environ.now.pairs _ (sources_of c.args.self.now) (sources_of c.paths.self) (to_load c.args.pending.items) c.paths.pending.items _ _ c.in-Err.error c.paths.invariant.world c.paths.invariant.continues next.2 c.in-Err.ensures.turns

pub returns-clause-ends : goal.returns-clause-ends
returns-clause-ends g c =
    continues_end (g.H.Host.told c.args.host.now).world c.args.environ.now.pairs (sources_of c.args.self.now) (sources_of c.paths.self) (to_load c.args.pending.items) c.paths.pending.items c.paths.invariant.continues (rw c.in_default.is at c.in_ok-path.ensures)
