-- The loaded paths on top were skipped.
use Rattle.std.proofs.Common.{vec_len}
use Rattle.just_search_load.specs.Loads.{to_load}
use Rattle.just_search_load.specs.Turns.{Skips}
use Rattle.just_search_load.specs.Shows.{sources_of}
use Rattle.just_search_load.proofs.loader.Loader.next.Given as goal

abbrev pub invariant-paths : goal.invariant-paths
invariant-paths l = Skips (sources_of l.self) l.fn.pending.items (to_load l.pending.items)

abbrev pub decreases-paths : goal.decreases-paths
decreases-paths l = vec_len l.pending
