-- What was found, and what is still to come.
use Rattle.std.proofs.Common.{◌≡◌, drop}
use Rattle.std.specs.List.{flat_map}
use Rattle.just_lang_spots.specs.Spots.{earlier, first_spot}
use Rattle.just_lang_spots.proofs.rule.first_among.Given as goal

abbrev pub invariant-things : goal.invariant-things
invariant-things g l =
    earlier l.found (first_spot (flat_map (g.R.Rule.spots l.rule l.file) (drop l.thing-index l.things))) ≡ first_spot (flat_map (g.R.Rule.spots l.rule l.file) l.things)
