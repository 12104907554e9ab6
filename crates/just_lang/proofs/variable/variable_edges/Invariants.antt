-- The assignments so far have their edges.
use Rattle.std.proofs.Common.{◌≡◌, map, take}
use Rattle.just_lang_spots.specs.Entries.{entries}
use Rattle.just_lang.specs.CycleTables.{uses_in}
use Rattle.just_lang.proofs.variable.variable_edges.Given as goal

abbrev pub invariant-variables : goal.invariant-variables
invariant-variables l = l.edges.items ≡ map (uses_in l.index) (entries (take l.variable-index l.variables))
