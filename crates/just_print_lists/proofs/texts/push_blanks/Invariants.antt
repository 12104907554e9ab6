-- What is left follows what was added.
use Rattle.std.proofs.Common.{◌≡◌, ◌++◌, string_bytes}
use Rattle.just_print_lists.specs.Blanks.{blanks}
use Rattle.just_print_lists.proofs.texts.push_blanks.Given as goal

abbrev pub invariant-blanks : goal.invariant-blanks
invariant-blanks l = string_bytes l.out ++ blanks l.left ≡ string_bytes l.initial.out ++ blanks l.count

abbrev pub decreases-blanks : goal.decreases-blanks
decreases-blanks l = l.left
