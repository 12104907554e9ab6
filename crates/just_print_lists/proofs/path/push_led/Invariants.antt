-- What is left follows what was added.
use Rattle.std.proofs.Common.{◌≡◌, ◌++◌, drop, string_bytes}
use Rattle.just_print.specs.Usages.{led}
use Rattle.just_print_lists.proofs.path.push_led.Given as goal

abbrev pub invariant-names : goal.invariant-names
invariant-names l =
    string_bytes l.out ++ led (drop l.name-index l.names) ≡ string_bytes l.initial.out ++ led l.names
