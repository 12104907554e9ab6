-- What is open are nodes; each turn closes one.
use Rattle.std.proofs.Common.{◌≡◌, length}
use Rattle.just_lang_spots.specs.Walk.{IsWalk}
use Rattle.just_lang_spots.proofs.level.close.Given as goal

abbrev pub invariant-loop-top : goal.invariant-loop-top
invariant-loop-top l = record {
  walk : IsWalk (length l.fn.walk.seen.items) l.walk;
  seen : l.walk.seen.items ≡ l.fn.walk.seen.items;
}

abbrev pub decreases-loop-top : goal.decreases-loop-top
decreases-loop-top l = length l.walk.open.items
