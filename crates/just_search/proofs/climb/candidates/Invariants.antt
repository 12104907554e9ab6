-- The candidates so far.
use Rattle.std.proofs.Common.{◌≡◌, filter, take}
use Rattle.just_search.specs.Climb.{is_wanted}
use Rattle.just_search.proofs.climb.candidates.Given as goal

abbrev pub invariant-names : goal.invariant-names
invariant-names l = l.found.items ≡ filter (is_wanted l.wanted) (take l.name-index l.names)
