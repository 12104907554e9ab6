-- The names of the parameters so far, what was found, and what is still to come.
use Rattle.std.proofs.Common.{◌≡◌, [], take, drop}
use Rattle.just_lang_spots.specs.Spots.{earlier, first_spot}
use Rattle.just_lang_names.specs.Scopes.{AreParameters, module_scope_of}
use Rattle.just_lang_names.specs.ScopeSpots.{unknown_in_defaults}
use Rattle.just_lang_names.proofs.scopes.first_in_defaults.Given as goal

abbrev pub invariant-parameters : goal.invariant-parameters
invariant-parameters l = record {
  before : AreParameters (take l.parameter-index l.parameters) l.before;
  rest : earlier l.found (first_spot (unknown_in_defaults (module_scope_of l.names) l.file (take l.parameter-index l.parameters) (drop l.parameter-index l.parameters)))
      ≡ first_spot (unknown_in_defaults (module_scope_of l.names) l.file [] l.parameters);
}
