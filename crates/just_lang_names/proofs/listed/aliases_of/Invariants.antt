-- What was listed so far, and what is still to come.
use Rattle.std.proofs.Common.{◌≡◌, ◌++◌, map, drop}
use Rattle.std.specs.List.{enumerate_from, flat_map}
use Rattle.just_lang_spots.specs.Entries.{entries}
use Rattle.just_lang_names.specs.TargetSpots.{aliases_in}
use Rattle.just_lang_names.specs.Targets.{alias_in, aliases_of}
use Rattle.just_lang_names.proofs.listed.aliases_of.Given as goal

abbrev pub invariant-modules : goal.invariant-modules
invariant-modules l =
    map alias_in l.list.items ++ flat_map (λ x. flat_map (aliases_in x.0) (entries x.1.items.items)) (enumerate_from l.number (drop l.number l.modules)) ≡ aliases_of l.modules
