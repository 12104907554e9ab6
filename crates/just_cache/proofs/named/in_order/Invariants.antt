-- The pairs to come follow those so far.
use Rattle.std.proofs.Common.{◌≡◌, ◌++◌, length}
use Rattle.just_cache.proofs.named.in_order.Given as goal

abbrev pub invariant-pairs : goal.invariant-pairs
invariant-pairs l = l.list.items ++ l.rest.entries ≡ l.fn.digits.entries

abbrev pub decreases-pairs : goal.decreases-pairs
decreases-pairs l = length l.rest.entries
