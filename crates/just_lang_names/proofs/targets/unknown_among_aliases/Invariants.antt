-- What was found, and what is still to come.
use Rattle.std.proofs.Common.{◌≡◌, map, drop}
use Rattle.std.specs.List.{flat_map}
use Rattle.just_lang_spots.specs.Spots.{earlier, first_spot}
use Rattle.just_lang_names.specs.Names.{layout_of, wins_of}
use Rattle.just_lang_names.specs.TargetSpots.{unknown_alias_target}
use Rattle.just_lang_names.specs.Targets.{alias_in}
use Rattle.just_lang_names.proofs.targets.unknown_among_aliases.Given as goal

abbrev pub invariant-aliases : goal.invariant-aliases
invariant-aliases l =
    earlier l.found (first_spot (flat_map (unknown_alias_target (wins_of l.names) (layout_of l.names)) (map alias_in (drop l.one-index l.aliases))))
    ≡ first_spot (flat_map (unknown_alias_target (wins_of l.names) (layout_of l.names)) (map alias_in l.aliases))
