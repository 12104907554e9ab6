-- What was listed so far, and what is still to come.
use Rattle.std.proofs.Common.{◌≡◌, ◌++◌, map, drop}
use Rattle.std.specs.List.{enumerate_from, flat_map}
use Rattle.just_lang_spots.specs.Entries.{entries}
use Rattle.just_lang_names.specs.TargetSpots.{dependencies_in}
use Rattle.just_lang_names.specs.Targets.{dependency_of, dependencies_of}
use Rattle.just_lang_names.proofs.listed.dependencies_of.Given as goal

abbrev pub invariant-modules : goal.invariant-modules
invariant-modules l =
    map dependency_of l.list.items ++ flat_map (λ x. flat_map (dependencies_in x.0) (entries x.1.recipes.items)) (enumerate_from l.number (drop l.number l.modules)) ≡ dependencies_of l.modules
