-- What is left follows what was added.
use Rattle.std.proofs.Common.{◌≡◌, ◌++◌, drop, map, codes, string_bytes}
use Rattle.just_print.specs.Printed.{led, printed_name}
use Rattle.just_print.proofs.expr.push_further_names.Given as goal

abbrev pub invariant-names : goal.invariant-names
invariant-names l =
    string_bytes l.out ++ led (codes "::") (map printed_name (drop l.name-index l.names)) ≡ string_bytes l.initial.out ++ led (codes "::") (map printed_name l.names)
