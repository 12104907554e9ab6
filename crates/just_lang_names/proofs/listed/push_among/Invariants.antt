-- The dependencies so far, and those that are still to come.
use Rattle.std.proofs.Common.{◌≡◌, ◌++◌, map, drop}
use Rattle.just_lang_names.specs.TargetSpots.{dependency_in}
use Rattle.just_lang_names.specs.Targets.{dependency_of}
use Rattle.just_lang_names.proofs.listed.push_among.Given as goal

abbrev pub invariant-dependencies : goal.invariant-dependencies
invariant-dependencies l =
    map dependency_of l.list.items ++ map (dependency_in l.number l.file) (drop l.dependency-index l.dependencies)
    ≡ map dependency_of l.fn.list.items ++ map (dependency_in l.number l.file) l.dependencies
