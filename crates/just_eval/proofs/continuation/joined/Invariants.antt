-- The lines that were gathered with those that are left are all.
use Rattle.std.proofs.Common.{◌≡◌, drop}
use Rattle.just_eval.specs.Bodies.{joined}
use Rattle.just_eval.specs.Parts.{with_rest}
use Rattle.just_eval.proofs.continuation.joined.Given as goal

abbrev pub invariant-lines : goal.invariant-lines
invariant-lines l = with_rest l.gathered (joined (drop l.line-index l.lines)) ≡ joined l.lines
