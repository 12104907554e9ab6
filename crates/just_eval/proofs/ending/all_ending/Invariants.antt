-- No variable of the modules so far leads to itself.
use Rattle.std.proofs.Common.{take}
use Rattle.std.specs.List.{All}
use Rattle.just_eval.proofs.Leading.{IsEnding}
use Rattle.just_eval.proofs.ending.all_ending.Given as goal

abbrev pub invariant-modules : goal.invariant-modules
invariant-modules l = All IsEnding (take l.module-index l.modules)
