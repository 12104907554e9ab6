-- It is among those that are left.
use Rattle.std.proofs.Common.{◌≡◌, drop}
use Rattle.just_cli_texts.specs.Evaluated.{variable_named}
use Rattle.just_cli_texts.proofs.values.variable_named.Given as goal

abbrev pub invariant-variables : goal.invariant-variables
invariant-variables l = variable_named (drop l.variable-index l.variables) l.name ≡ variable_named l.variables l.name
