-- One more is made of those within it.
use Rattle.std.proofs.Common.{map, reverse, refl}
use Rattle.just_print_tree.specs.Kept.{branches, tolds}
use Rattle.just_print_tree.proofs.Growing.{grown_so}
use Rattle.just_print_tree.proofs.tree.grow.Goals as goal

pub returns : goal.returns
returns g c =
    let source = c.args.source.now in
    let place = c.args.place in
    grown_so (g.T.Texts.text_of source.texts.now) source.files.now (map tolds source.recipes.now) (tolds place.recipes.now) place.laid.now place.justfile.now c.len-count.result (reverse (branches c.args.outer.now.items)) c.take_within.new.outer.items c.push.new.self.items
    c.in_ok-within.within.trees.items c.in_ok-within.within.spots.items _ c.in_ok-within.ensures c.len-count.ensures c.in_ok-listed.ensures.listed c.in_ok-listed.ensures.modules refl refl c.in_ok-push.ensures.items
