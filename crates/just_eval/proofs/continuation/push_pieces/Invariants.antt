-- What is left follows what was added.
use Rattle.std.proofs.Common.{◌≡◌, ◌++◌, drop}
use Rattle.just_eval.specs.Parts.{fragments_of, pieces}
use Rattle.just_eval.proofs.continuation.push_pieces.Given as goal

abbrev pub invariant-fragments : goal.invariant-fragments
invariant-fragments l = fragments_of l.parts.items ++ pieces l.at_front (drop l.at l.fragments) ≡ fragments_of l.initial.parts.items ++ pieces l.behind l.fragments
