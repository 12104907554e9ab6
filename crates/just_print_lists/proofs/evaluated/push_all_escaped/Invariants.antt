-- What is left follows what was added.
use Rattle.std.proofs.Common.{◌≡◌, ◌++◌, drop, string_bytes}
use Rattle.std.specs.List.{flat_map}
use Rattle.just_print_lists.specs.Evaluated.{escaped}
use Rattle.just_print_lists.proofs.evaluated.push_all_escaped.Given as goal

abbrev pub invariant-letters : goal.invariant-letters
invariant-letters l =
    string_bytes l.out ++ flat_map escaped (drop l.c-index l.letters) ≡ string_bytes l.initial.out ++ flat_map escaped l.letters
