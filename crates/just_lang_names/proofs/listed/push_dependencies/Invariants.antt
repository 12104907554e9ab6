-- The dependencies so far, and those that are still to come.
use Rattle.std.proofs.Common.{◌≡◌, ◌++◌, map, drop}
use Rattle.std.specs.List.{flat_map}
use Rattle.just_lang_spots.specs.Entries.{entries}
use Rattle.just_lang_names.specs.TargetSpots.{dependencies_in}
use Rattle.just_lang_names.specs.Targets.{dependency_of}
use Rattle.just_lang_names.proofs.listed.push_dependencies.Given as goal

abbrev pub invariant-recipes : goal.invariant-recipes
invariant-recipes l =
    map dependency_of l.list.items ++ flat_map (dependencies_in l.number) (entries (drop l.one-index l.recipes))
    ≡ map dependency_of l.fn.list.items ++ flat_map (dependencies_in l.number) (entries l.recipes)
