-- The variables to come follow those so far.
use Rattle.std.proofs.Common.{◌≡◌, ◌++◌, map, length}
use Rattle.just_eval.specs.Overrides.{variable_text}
use Rattle.just_eval.proofs.overrides.variable_texts.Given as goal

abbrev pub invariant-variables : goal.invariant-variables
invariant-variables l = l.texts.items ++ map variable_text l.rest.keys ≡ map variable_text l.fn.variables.keys

abbrev pub decreases-variables : goal.decreases-variables
decreases-variables l = length l.rest.keys
