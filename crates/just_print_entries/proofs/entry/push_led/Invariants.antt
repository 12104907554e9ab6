-- What is left follows what was added.
use Rattle.std.proofs.Common.{◌≡◌, ◌++◌, drop, map, codes, string_bytes}
use Rattle.just_print.specs.Printed.{led}
use Rattle.just_print_entries.proofs.entry.push_led.Given as goal

abbrev pub invariant-names : goal.invariant-names
invariant-names l = string_bytes l.out ++ led (codes ", ") (map (λ n. n.now) (drop l.name-index l.names)) ≡ string_bytes l.initial.out ++ led (codes ", ") (map (λ n. n.now) l.names)
