-- What is left follows what was added.
use Rattle.std.proofs.Common.{◌≡◌, ◌++◌, drop, map, codes, string_bytes}
use Rattle.just_print.specs.Printed.{led, printed_argument}
use Rattle.just_print.proofs.attribute.push_further_arguments.Given as goal

abbrev pub invariant-arguments : goal.invariant-arguments
invariant-arguments l = string_bytes l.out ++ led (codes ", ") (map printed_argument (drop l.argument-index l.arguments)) ≡ string_bytes l.initial.out ++ led (codes ", ") (map printed_argument l.arguments)
