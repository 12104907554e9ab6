-- What is left follows what was added.
use Rattle.std.proofs.Common.{◌≡◌, ◌++◌, drop, string_bytes}
use Rattle.std.specs.List.{flat_map}
use Rattle.just_print.specs.Printed.{printed_fragment}
use Rattle.just_print.proofs.body.push_each.Given as goal

abbrev pub invariant-fragments : goal.invariant-fragments
invariant-fragments l = string_bytes l.out ++ flat_map printed_fragment (drop l.fragment-index l.fragments) ≡ string_bytes l.initial.out ++ flat_map printed_fragment l.fragments
