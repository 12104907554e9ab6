-- What is left follows what was added.
use Rattle.std.proofs.Common.{◌≡◌, ◌++◌, drop, map, string_bytes}
use Rattle.std.specs.List.{flat_map}
use Rattle.just_print_lists.specs.NameLists.{group_name}
use Rattle.just_print_lists.proofs.names.push_groups.Given as goal

abbrev pub invariant-groups : goal.invariant-groups
invariant-groups l = string_bytes l.out ++ flat_map (group_name l.prefix) (map (λ g. g.now) (drop l.group-index l.groups)) ≡ string_bytes l.initial.out ++ flat_map (group_name l.prefix) (map (λ g. g.now) l.groups)
