-- Those so far, and those that are still to come.
use Rattle.std.proofs.Common.{◌≡◌, ◌++◌, drop, map}
use Rattle.just_lang_shapes.proofs.expansions.expanded_each.Given as goal

abbrev pub invariant-things : goal.invariant-things
invariant-things g l =
    let f = g.X.Expand.expansion (g.T.Texts.text_of l.texts) in l.all.items ++ map f (drop l.thing-index l.things) ≡ map f l.things
