-- The places so far, and those that are still to come.
use Rattle.std.proofs.Common.{◌≡◌, ◌++◌, drop}
use Rattle.std.specs.Prelude.{filter_map}
use Rattle.just_lang_spots.specs.Entries.{entries}
use Rattle.just_lang.specs.CycleTables.{variable_spot_in}
use Rattle.just_lang.proofs.variable.variable_spots.Given as goal

abbrev pub invariant-variables : goal.invariant-variables
invariant-variables l =
    l.spots.items ++ filter_map variable_spot_in (entries (drop l.variable-index l.variables)) ≡ filter_map variable_spot_in (entries l.variables)
