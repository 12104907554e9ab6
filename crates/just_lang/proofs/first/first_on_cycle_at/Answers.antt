-- The first node in the order of the places has the first place.
use Rattle.just_lang.proofs.FirstSpots.{first_spot_is}
use Rattle.just_lang.proofs.first.first_on_cycle_at.Goals as goal

pub returns : goal.returns
returns c =
    first_spot_is c.args.edges.now c.args.spots.now c.in_ok-nodes.nodes.items c.as_slice.result.now c.in_ok-first.first c.place_of-place.result c.as_slice.ensures.value c.in_ok-nodes.ensures.within
    c.in_ok-nodes.ensures.whole c.in_ok-nodes.ensures.order c.in_ok-first.ensures c.place_of-place.ensures
