-- What is left follows what was added.
use Rattle.std.proofs.Common.{◌≡◌, ◌++◌, drop, string_bytes}
use Rattle.std.specs.List.{flat_map}
use Rattle.just_print_lists.specs.LongUsages.{option_line}
use Rattle.just_print_lists.proofs.usage.push_option_lines.Given as goal

abbrev pub invariant-parameters : goal.invariant-parameters
invariant-parameters l =
    string_bytes l.out ++ flat_map option_line (drop l.parameter-index l.parameters) ≡ string_bytes l.initial.out ++ flat_map option_line l.parameters
