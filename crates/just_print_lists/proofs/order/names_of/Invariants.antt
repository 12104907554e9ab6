-- The names so far, and those that are still to come.
use Rattle.std.proofs.Common.{◌≡◌, ◌++◌, drop, map}
use Rattle.just_print_lists.proofs.order.names_of.Given as goal

abbrev pub invariant-items : goal.invariant-items
invariant-items g l = l.names.items ++ map (g.T.Named.name) (map (λ it. it.now) (drop l.item-index l.items)) ≡ map (g.T.Named.name) (map (λ it. it.now) l.items)
