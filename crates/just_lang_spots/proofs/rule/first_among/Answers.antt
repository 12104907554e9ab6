-- The first place of the things so far, and of one more.
use Rattle.std.proofs.Common.{◌∙◌}
use Rattle.just_lang_spots.proofs.Spots.{first_step}
use Rattle.just_lang_spots.proofs.rule.first_among.Goals as goal

pub things-preserved : goal.things-preserved
things-preserved g c =
    first_step (g.R.Rule.spots c.args.rule.now c.args.file) c.things.found c.in_ok-here.here c.earlier-found.result c.args.things.now c.things.thing-index c.thing-item.result
    c.things-test.true c.thing-item.is c.in_ok-here.ensures c.earlier-found.ensures ∙ c.things.invariant
