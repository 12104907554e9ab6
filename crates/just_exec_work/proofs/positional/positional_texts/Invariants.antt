-- The texts so far and those of what is left are those of all.
use Rattle.std.proofs.Common.{◌≡◌, ◌++◌, drop}
use Rattle.just_exec_work.specs.Positional.{positional_texts}
use Rattle.just_exec_work.proofs.positional.positional_texts.Given as goal

abbrev pub invariant-parameters : goal.invariant-parameters
invariant-parameters l = l.texts.items ++ positional_texts (drop l.at l.parameters) (drop l.at l.values) ≡ positional_texts l.parameters l.values
