-- What is left follows what was added.
use Rattle.std.proofs.Common.{◌≡◌, ◌++◌, drop, map}
use Rattle.std.specs.List.{flat_map}
use Rattle.just_print_lists.specs.Summaries.{paths_of}
use Rattle.just_print_lists.proofs.summary.paths_of_modules.Given as goal

abbrev pub invariant-modules : goal.invariant-modules
invariant-modules l = l.paths.items ++ flat_map (paths_of l.unsorted) (map (λ m. m.now) (drop l.outer-index l.modules)) ≡ flat_map (paths_of l.unsorted) (map (λ m. m.now) l.modules)
