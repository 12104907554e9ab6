-- One more item.
use Rattle.std.proofs.Common.{◌∙◌}
use Rattle.just_lang_spots.specs.Entries.{entry}
use Rattle.just_lang_names.specs.Scopes.{module_scope_of}
use Rattle.just_lang_names.specs.ScopeSpots.{unknown_in_item}
use Rattle.just_lang_names.proofs.Steps.{first_step_of}
use Rattle.just_lang_names.proofs.scopes.first_in_items.Goals as goal

pub items-preserved : goal.items-preserved
items-preserved c =
    first_step_of (unknown_in_item (module_scope_of c.args.names.now)) entry c.items.found c.in_ok-here.here c.earlier-found.result c.args.items.now c.items.one-index c.one-item.result
    c.items-test.true c.one-item.is c.in_ok-here.ensures c.earlier-found.ensures ∙ c.items.invariant
