-- The paths so far and those of what is left are those of all.
use Rattle.std.proofs.Common.{◌≡◌, ◌++◌, drop, map}
use Rattle.just_exec.specs.Caches.{path_in}
use Rattle.just_exec.proofs.caches.paths_in.Given as goal

abbrev pub invariant-names : goal.invariant-names
invariant-names l = l.paths.items ++ map (path_in l.folder) (drop l.name-index l.names) ≡ map (path_in l.folder) l.names
