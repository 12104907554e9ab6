-- The aliases so far, and those that are still to come.
use Rattle.std.proofs.Common.{◌≡◌, ◌++◌, map, drop}
use Rattle.std.specs.List.{flat_map}
use Rattle.just_lang_spots.specs.Entries.{entries}
use Rattle.just_lang_names.specs.TargetSpots.{aliases_in}
use Rattle.just_lang_names.specs.Targets.{alias_in}
use Rattle.just_lang_names.proofs.listed.push_aliases.Given as goal

abbrev pub invariant-items : goal.invariant-items
invariant-items l =
    map alias_in l.list.items ++ flat_map (aliases_in l.number) (entries (drop l.one-index l.items))
    ≡ map alias_in l.fn.list.items ++ flat_map (aliases_in l.number) (entries l.items)
