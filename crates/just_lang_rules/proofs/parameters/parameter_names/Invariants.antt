-- The names so far, and those that are still to come.
use Rattle.std.proofs.Common.{◌≡◌, ◌++◌, map, drop}
use Rattle.just_lang_spots.specs.Repeated.{named}
use Rattle.just_lang_rules.specs.ParameterSpots.{parameter_name}
use Rattle.just_lang_rules.proofs.parameters.parameter_names.Given as goal

abbrev pub invariant-parameters : goal.invariant-parameters
invariant-parameters l =
    map named l.names.items ++ map (parameter_name l.file) (drop l.parameter-index l.parameters) ≡ map (parameter_name l.file) l.parameters
