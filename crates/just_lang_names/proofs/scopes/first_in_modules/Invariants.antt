-- What was found, and what is still to come.
use Rattle.std.proofs.Common.{◌≡◌, drop}
use Rattle.std.specs.List.{flat_map}
use Rattle.just_lang_spots.specs.Spots.{earlier, first_spot}
use Rattle.just_lang_names.specs.Scopes.{unknown_in_names}
use Rattle.just_lang_names.proofs.scopes.first_in_modules.Given as goal

abbrev pub invariant-modules : goal.invariant-modules
invariant-modules l =
    earlier l.found (first_spot (flat_map unknown_in_names (drop l.of_module-index l.modules))) ≡ first_spot (flat_map unknown_in_names l.modules)
