-- What was kept so far, and what is still to come.
use Rattle.std.proofs.Common.{◌≡◌, ◌++◌, not, drop, map}
use Rattle.std.specs.Prelude.{filter}
use Rattle.just_print_lists.proofs.group.public_of.Given as goal

abbrev pub invariant-items : goal.invariant-items
invariant-items g l =
    map (λ it. it.now) l.kept.items ++ filter (λ x. not (g.T.Grouped.private x)) (map (λ it. it.now) (drop l.item-index l.items)) ≡ filter (λ x. not (g.T.Grouped.private x)) (map (λ it. it.now) l.items)
