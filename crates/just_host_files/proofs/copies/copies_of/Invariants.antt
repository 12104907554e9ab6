-- The copies so far are the paths that were passed.
use Rattle.std.proofs.Common.{◌≡◌, take}
use Rattle.just_host_files.proofs.copies.copies_of.Given as goal

abbrev pub invariant-loop-path : goal.invariant-loop-path
invariant-loop-path l = l.copies.items ≡ take l.path-index l.paths
