-- What is left follows what was added.
use Rattle.std.proofs.Common.{◌≡◌, ◌++◌, drop, string_bytes}
use Rattle.std.specs.Prelude.{encode_utf8_all}
use Rattle.just_print.specs.Printed.{doubled}
use Rattle.just_print.proofs.Braces.{doubled_from}
use Rattle.just_print.proofs.body.push_text.Given as goal

abbrev pub invariant-letters : goal.invariant-letters
invariant-letters l =
    string_bytes l.out ++ encode_utf8_all (doubled_from l.behind_brace (drop l.c-index l.letters)) ≡ string_bytes l.initial.out ++ encode_utf8_all (doubled l.letters)
