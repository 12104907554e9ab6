-- The nodes of the places that are left, and those so far.
use Rattle.std.proofs.Common.{◌≡◌, ◌++◌, length, reverse}
use Rattle.just_eval_closure.specs.Closures.{nodes_with}
use Rattle.just_eval_closure.proofs.key_closure.nodes_of.Given as goal

abbrev pub invariant-places : goal.invariant-places
invariant-places l = record {
  even : length l.numbers.items ≡ length l.places.items;
  nodes : nodes_with l.places.items l.numbers.items ++ reverse l.nodes.items ≡ nodes_with l.initial.places.items l.initial.numbers.items;
}

abbrev pub decreases-places : goal.decreases-places
decreases-places l = length l.places.items
