-- What is left follows what was added.
use Rattle.std.proofs.Common.{◌≡◌, ◌++◌, drop, string_bytes}
use Rattle.just_print.specs.Printed.{led}
use Rattle.just_print_lists.proofs.texts.push_led.Given as goal

abbrev pub invariant-texts : goal.invariant-texts
invariant-texts l = string_bytes l.out ++ led l.sign (drop l.text-index l.texts) ≡ string_bytes l.initial.out ++ led l.sign l.texts
