-- The groups of one more item.
use Rattle.just_print_tree.specs.Groups.{groups_among}
use Rattle.just_lang_spots.specs.Entries.{entries}
use Rattle.just_print_tree.proofs.GroupLaws.{groups_more}
use Rattle.just_print_tree.proofs.groups.groups_among.Goals as goal

pub items-preserved : goal.items-preserved
items-preserved g c =
    let text_of = g.T.Texts.text_of c.args.texts.now in
    groups_more text_of c.args.spots.now c.args.items.now c.items.one-index c.one-item.result c.items.found.items c.push_each_new.new.found.items c.in_ok-groups.groups c.as_slice.result.now (groups_among text_of c.args.spots.now (entries c.args.items.now))
    c.items-test.true c.one-item.is c.in_ok-groups.ensures c.as_slice.ensures c.in_ok-push_each_new.ensures c.items.invariant
