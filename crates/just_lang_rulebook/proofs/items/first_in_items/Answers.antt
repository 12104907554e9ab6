-- One more item.
use Rattle.std.proofs.Common.{◌∙◌}
use Rattle.just_lang_rulebook.proofs.EntrySteps.{items_step}
use Rattle.just_lang_rulebook.proofs.items.first_in_items.Goals as goal

pub items-preserved : goal.items-preserved
items-preserved g c =
    items_step (g.R.Rule.spots c.args.rule.now) c.items.found c.in_ok-here.here c.earlier-found.result c.args.items.now c.items.one-index c.one-item.result
    c.items-test.true c.one-item.is c.in_ok-here.ensures c.earlier-found.ensures ∙ c.items.invariant
