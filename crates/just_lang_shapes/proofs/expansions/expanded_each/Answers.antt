-- One more; where none is left, those so far are all.
use Rattle.std.proofs.Common.{◌+◌, ◌≤◌, ◌∙◌, length, map, drop, refl, arith}
use Rattle.just_lang_spots.proofs.ListLaws.{drop_here}
use Rattle.just_lang_shapes.proofs.ListLaws.{made_step, made_all}
use Rattle.just_lang_shapes.proofs.expansions.expanded_each.Goals as goal

pub things-preserved : goal.things-preserved
things-preserved g c =
    let xs = c.args.things.now in
    let i = c.things.thing-index in
    let x = c.thing-item.result in
    made_step (g.X.Expand.expansion (g.T.Texts.text_of c.args.texts.now)) x (drop (i + 1) xs) (drop i xs) c.things.all.items c.push.new.self.items c.in_ok-expanded.expanded
    (drop_here xs i x c.things-test.true c.thing-item.is) c.in_ok-expanded.ensures c.in_ok-push.ensures.items ∙ c.things.invariant

pub returns : goal.returns
returns g c =
    let xs = c.args.things.now in
    let last : length xs ≤ c.things.thing-index = omega arith in
    c.from.ensures ∙ made_all (map (g.X.Expand.expansion (g.T.Texts.text_of c.args.texts.now))) xs c.things.thing-index c.things.all.items _ last refl c.things.invariant
