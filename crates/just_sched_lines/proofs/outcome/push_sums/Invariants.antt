-- What is left follows what was added.
use Rattle.std.proofs.Common.{◌≡◌, ◌++◌, drop, string_bytes}
use Rattle.std.specs.List.{flat_map}
use Rattle.just_sched_lines.specs.Lines.{sum_text}
use Rattle.just_sched_lines.proofs.outcome.push_sums.Given as goal

abbrev pub invariant-sums : goal.invariant-sums
invariant-sums l = string_bytes l.out ++ flat_map sum_text (drop l.sum-index l.sums) ≡ string_bytes l.initial.out ++ flat_map sum_text l.sums
