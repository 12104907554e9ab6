-- It is among those that are left.
use Rattle.std.proofs.Common.{◌≡◌, drop}
use Rattle.std.specs.Prelude.{filter_map}
use Rattle.just_lang_spots.specs.Entries.{entries}
use Rattle.just_print_commands.specs.Places.{first_of, target_in}
use Rattle.just_print_commands.proofs.place.target_among.Given as goal

abbrev pub invariant-items : goal.invariant-items
invariant-items l = first_of (filter_map (target_in l.alias) (entries (drop l.one-index l.items))) ≡ first_of (filter_map (target_in l.alias) (entries l.items))
