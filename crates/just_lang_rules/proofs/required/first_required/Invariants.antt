-- What was found, and what is still to come.
use Rattle.std.proofs.Common.{◌≡◌, drop, false}
use Rattle.just_lang_spots.specs.Spots.{earlier, first_spot}
use Rattle.just_lang_rules.specs.ParameterSpots.{required_behind}
use Rattle.just_lang_rules.proofs.required.first_required.Given as goal

abbrev pub invariant-parameters : goal.invariant-parameters
invariant-parameters g l =
    earlier l.found (first_spot (required_behind (g.T.Texts.text_of l.texts) l.attributes l.file l.behind (drop l.parameter-index l.parameters)))
    ≡ first_spot (required_behind (g.T.Texts.text_of l.texts) l.attributes l.file false l.parameters)
