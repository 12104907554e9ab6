-- What was kept so far, and what is still to come.
use Rattle.std.proofs.Common.{◌≡◌, ◌++◌, drop, map}
use Rattle.std.specs.Prelude.{filter}
use Rattle.just_print_lists.specs.Groups.{has_name}
use Rattle.just_print_lists.proofs.group.in_group.Given as goal

abbrev pub invariant-items : goal.invariant-items
invariant-items g l =
    map (λ it. it.now) l.kept.items ++ filter (λ x. has_name l.group (g.T.Grouped.groups x)) (map (λ it. it.now) (drop l.item-index l.items)) ≡ filter (λ x. has_name l.group (g.T.Grouped.groups x)) (map (λ it. it.now) l.items)
