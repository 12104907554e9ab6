-- The changes to come follow those so far.
use Rattle.std.proofs.Common.{◌≡◌, ◌++◌, length}
use Rattle.just_env.proofs.changes.in_order.Given as goal

abbrev pub invariant-changes : goal.invariant-changes
invariant-changes l = l.list.items ++ l.rest.entries ≡ l.fn.made.entries

abbrev pub decreases-changes : goal.decreases-changes
decreases-changes l = length l.rest.entries
