-- What is taken out is what leads to no cycle.
use Rattle.just_lang_spots.proofs.Peelings.{which}
use Rattle.just_lang_spots.proofs.graph.order.Goals as goal

pub returns-clause-which : goal.returns-clause-which
returns-clause-which c = which c.args.edges.now c.in_ok-peeled.peeled.marks.items c.in_ok-peeled.peeled.order.items c.in_ok-peeled.ensures.peeled c.in_ok-peeled.ensures.whole
