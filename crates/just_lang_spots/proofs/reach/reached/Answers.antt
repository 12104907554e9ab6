-- The search begins with the targets of its start, goes on with those of the next node, and where it ends all are marked.
use Rattle.std.proofs.Common.{arith, ◌≡◌, get_or}
use Rattle.std.proofs.lemmas.List.{get_or_read}
use Rattle.just_lang_spots.proofs.Search.{search_starts_as, search_goes_on_as, search_ends}
use Rattle.just_lang_spots.proofs.reach.reached.Goals as goal

pub loop-at-init : goal.loop-at-init
loop-at-init c =
    search_starts_as c.args.edges.now c.args.start c.index-edges-start.result c.as_slice.result.now c.in_ok-marks.marks.items c.meet_each.new.marks.items c.new-list.result.items c.meet_each.new.list.items c.requires.graph c.requires.start c.index-edges-start.is c.as_slice.ensures (c.in_ok-marks.ensures.items_if_clones_equal (λ y h. h)) c.new-list.ensures.items c.in_ok-meet_each.ensures.marks c.in_ok-meet_each.ensures.list

pub loop-at-preserved : goal.loop-at-preserved
loop-at-preserved c =
    let node : c.index-node.result.now ≡ get_or c.loop-at.list.items c.loop-at.at 0 = get_or_read c.loop-at.list.items c.loop-at.at c.index-node.result.now (omega arith) c.index-node.ensures 0 in
    search_goes_on_as c.args.edges.now c.args.start c.loop-at.marks.items c.loop-at.list.items c.loop-at.at c.index-node.result.now c.index-edges-node.result c.as_slice-in-loop-at.result.now c.meet_each-in-loop-at.new.marks.items c.meet_each-in-loop-at.new.list.items c.requires.graph c.loop-at.invariant (omega arith) node c.index-edges-node.is c.as_slice-in-loop-at.ensures c.in_ok-meet_each-2.ensures.marks c.in_ok-meet_each-2.ensures.list

pub returns-clause-reached : goal.returns-clause-reached
returns-clause-reached c = search_ends c.args.edges.now c.args.start c.loop-at.marks.items c.loop-at.list.items c.loop-at.at c.loop-at.invariant (omega arith)
