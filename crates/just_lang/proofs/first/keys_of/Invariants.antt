-- The places so far have their keys.
use Rattle.std.proofs.Common.{◌≡◌, take}
use Rattle.just_lang.specs.SpotOrder.{numbered_from}
use Rattle.just_lang.proofs.first.keys_of.Given as goal

abbrev pub invariant-spots : goal.invariant-spots
invariant-spots l = l.keys.items ≡ numbered_from 0 (take l.number l.spots)
