-- One more place; the first of all is the least.
use Rattle.std.proofs.Common.{arith, ◌∙◌}
use Rattle.just_lang_spots.specs.declared.spot.Spot.{Spot}
use Rattle.just_lang_spots.proofs.Spots.{first_step_spot}
use Rattle.just_lang_spots.proofs.Least.{first_found}
use Rattle.just_lang_spots.proofs.spot.first_of.Goals as goal

abbrev nowhere : Spot
nowhere = record { file = 0; line = 0; column = 0 }

pub spots-preserved : goal.spots-preserved
spots-preserved c =
    first_step_spot c.spots.found c.earlier-found.result c.args.spots.now c.spots.spot-index nowhere c.spots-test.true c.earlier-found.ensures ∙ c.spots.invariant

pub returns-clause-least : goal.returns-clause-least
returns-clause-least c = first_found c.spots.found c.args.spots.now c.spots.spot-index (omega arith) c.spots.invariant
