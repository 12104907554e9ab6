-- The names to come are taken out behind those so far.
use Rattle.std.proofs.Common.{◌≡◌, drop, map}
use Rattle.just_env.specs.Changes.{put_all, goes}
use Rattle.just_env.proofs.levels.take_out.Given as goal

abbrev pub invariant-names : goal.invariant-names
invariant-names l = put_all l.changes.entries (map goes (drop l.name-index l.names)) ≡ put_all l.initial.changes.entries (map goes l.names)
