-- The names that are left lead from here where all lead.
use Rattle.std.proofs.Common.{◌≡◌, drop}
use Rattle.just_print_commands.specs.Places.{listed_at}
use Rattle.just_print_commands.proofs.place.listed_at.Given as goal

abbrev pub invariant-names : goal.invariant-names
invariant-names l = listed_at (drop l.name-index l.names) l.listed ≡ listed_at l.names l.root
