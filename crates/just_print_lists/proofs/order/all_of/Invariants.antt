-- The items so far, and those that are still to come.
use Rattle.std.proofs.Common.{◌≡◌, ◌++◌, drop, map}
use Rattle.just_print_lists.proofs.order.all_of.Given as goal

abbrev pub invariant-items : goal.invariant-items
invariant-items g l = map (λ it. it.now) l.all.items ++ drop l.item-index l.items ≡ l.items
