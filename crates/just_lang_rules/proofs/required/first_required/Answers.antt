-- One more parameter.
use Rattle.std.proofs.Common.{◌∙◌}
use Rattle.just_lang_rules.proofs.Misplaced.{required_step}
use Rattle.just_lang_rules.proofs.required.first_required.Goals as goal

pub parameters-preserved : goal.parameters-preserved
parameters-preserved g c =
    required_step (g.T.Texts.text_of c.args.texts.now) c.args.attributes.now c.args.file c.parameters.behind c.is_behind-behind.result c.parameters.found c.in_ok-here.here c.earlier-found.result c.args.parameters.now c.parameters.parameter-index c.parameter-item.result
    c.parameters-test.true c.parameter-item.is c.in_ok-here.ensures c.is_behind-behind.ensures c.earlier-found.ensures ∙ c.parameters.invariant
