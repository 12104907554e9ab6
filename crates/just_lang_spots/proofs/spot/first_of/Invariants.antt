-- What was found, and what is still to come.
use Rattle.std.proofs.Common.{◌≡◌, drop}
use Rattle.just_lang_spots.specs.Spots.{earlier, first_spot}
use Rattle.just_lang_spots.proofs.spot.first_of.Given as goal

abbrev pub invariant-spots : goal.invariant-spots
invariant-spots l = earlier l.found (first_spot (drop l.spot-index l.spots)) ≡ first_spot l.spots
