-- Each node of the chain is in the order.
use Rattle.rows_calls.proofs.Chains.{each_listed}
use Rattle.rows_calls.proofs.graphs.the_first_node_has_it_from_the_last.Goals as goal

pub origins-requires-clause-whole : goal.origins-requires-clause-whole
origins-requires-clause-whole g c = each_listed c.in_ok-edges.edges c.in_ok-edges.ensures.edges
