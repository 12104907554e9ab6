-- The names of the parameters so far.
use Rattle.std.proofs.Common.{take}
use Rattle.just_lang_names.specs.Scopes.{AreParameters}
use Rattle.just_lang_names.proofs.parameters.parameters_of.Given as goal

abbrev pub invariant-parameters : goal.invariant-parameters
invariant-parameters l = AreParameters (take l.parameter-index l.parameters) l.names
