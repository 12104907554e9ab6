-- What is left follows what was added.
use Rattle.std.proofs.Common.{◌≡◌, ◌++◌, drop, string_bytes}
use Rattle.just_print.specs.Printed.{printed_values}
use Rattle.just_print.proofs.expr.push_values.Given as goal

abbrev pub invariant-values : goal.invariant-values
invariant-values l = string_bytes l.out ++ printed_values (drop l.value-index l.values) ≡ string_bytes l.initial.out ++ printed_values l.values
