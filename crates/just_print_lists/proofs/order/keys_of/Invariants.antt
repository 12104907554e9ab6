-- The keys so far, and those that are still to come.
use Rattle.std.proofs.Common.{◌≡◌, ◌++◌, drop}
use Rattle.just_print_lists.specs.Order.{keys_from}
use Rattle.just_print_lists.proofs.order.keys_of.Given as goal

abbrev pub invariant-items : goal.invariant-items
invariant-items g l = l.keys.items ++ keys_from (g.T.Named.name) l.place (drop l.place l.items) ≡ keys_from (g.T.Named.name) 0 l.items
