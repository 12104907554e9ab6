-- What is left follows what was added.
use Rattle.std.proofs.Common.{◌≡◌, ◌++◌, drop, string_bytes}
use Rattle.just_print_lists.specs.Summaries.{front_of}
use Rattle.just_print_lists.proofs.summary.push_front.Given as goal

abbrev pub invariant-names : goal.invariant-names
invariant-names l = string_bytes l.out ++ front_of (drop l.name-index l.names) ≡ string_bytes l.initial.out ++ front_of l.names
