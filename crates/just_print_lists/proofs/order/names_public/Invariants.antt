-- The public items so far, and those that are still to come.
use Rattle.std.proofs.Common.{◌≡◌, ◌++◌, not, drop, map}
use Rattle.std.specs.Prelude.{filter}
use Rattle.just_print_lists.specs.Order.{begins_underscore}
use Rattle.just_print_lists.proofs.order.names_public.Given as goal

abbrev pub invariant-items : goal.invariant-items
invariant-items g l =
    map (λ it. it.now) l.kept.items ++ filter (λ x. not (begins_underscore (g.T.Named.name x))) (map (λ it. it.now) (drop l.item-index l.items))
    ≡ filter (λ x. not (begins_underscore (g.T.Named.name x))) (map (λ it. it.now) l.items)
