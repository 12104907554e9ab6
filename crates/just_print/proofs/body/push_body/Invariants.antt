-- What is left follows what was added.
use Rattle.std.proofs.Common.{◌≡◌, ◌++◌, drop, string_bytes}
use Rattle.std.specs.List.{flat_map}
use Rattle.just_print.specs.Printed.{printed_line}
use Rattle.just_print.proofs.body.push_body.Given as goal

abbrev pub invariant-lines : goal.invariant-lines
invariant-lines l = string_bytes l.out ++ flat_map (printed_line l.indentation) (drop l.line-index l.lines) ≡ string_bytes l.initial.out ++ flat_map (printed_line l.indentation) l.lines
