-- One more module.
use Rattle.std.proofs.Common.{◌∙◌}
use Rattle.just_lang_spots.proofs.Spots.{first_step}
use Rattle.just_lang_names.specs.Scopes.{unknown_in_names}
use Rattle.just_lang_names.proofs.scopes.first_in_modules.Goals as goal

pub modules-preserved : goal.modules-preserved
modules-preserved c =
    first_step unknown_in_names c.modules.found c.in_ok-here.here c.earlier-found.result c.args.modules.now c.modules.of_module-index c.of_module-item.result
    c.modules-test.true c.of_module-item.is c.in_ok-here.ensures c.earlier-found.ensures ∙ c.modules.invariant
