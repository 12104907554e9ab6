-- The number of each name is in the map, or among the assignments that are left.
use Rattle.just_eval.proofs.Numbers.{Indexes}
use Rattle.just_eval.proofs.names.numbers.Given as goal

abbrev pub invariant-assignments : goal.invariant-assignments
invariant-assignments l =
    Indexes l.assignments l.at l.numbers
