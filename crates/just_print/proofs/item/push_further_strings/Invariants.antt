-- What is left follows what was added.
use Rattle.std.proofs.Common.{◌≡◌, ◌++◌, drop, map, codes, string_bytes}
use Rattle.just_print.specs.Printed.{led, printed_string}
use Rattle.just_print.proofs.item.push_further_strings.Given as goal

abbrev pub invariant-strings : goal.invariant-strings
invariant-strings l = string_bytes l.out ++ led (codes ", ") (map printed_string (drop l.string-index l.strings)) ≡ string_bytes l.initial.out ++ led (codes ", ") (map printed_string l.strings)
