-- The numbers beside the places that are left, and those so far.
use Rattle.std.proofs.Common.{◌≡◌, ◌≤◌, ◌++◌, length, reverse}
use Rattle.just_eval_closure.specs.declared.TheConstants.{CLOSURE_LIMIT}
use Rattle.just_eval_closure.specs.Closures.{numbers_beside}
use Rattle.just_eval_closure.specs.Ran.{places_of}
use Rattle.just_eval_closure.proofs.key_closure.all_numbers.Given as goal

abbrev pub invariant-places : goal.invariant-places
invariant-places l = record {
  short : length l.left.items ≤ CLOSURE_LIMIT;
  numbers : numbers_beside (places_of l.ran) 0 l.left.items ++ reverse l.all.items ≡ numbers_beside (places_of l.ran) 0 l.initial.left.items;
}

abbrev pub decreases-places : goal.decreases-places
decreases-places l = length l.left.items
