-- The place is that of none of the things that were passed.
use Rattle.std.proofs.Common.{◌≡◌, drop, map}
use Rattle.std.specs.Ordering.{nat_cmp}
use Rattle.std.specs.Cmp.Lexicographic.{slice_cmp}
use Rattle.std.specs.FinMap.{find, get}
use Rattle.just_host_memory.specs.Files.{by_text}
use Rattle.just_host_memory.specs.Trees.{files_of}
use Rattle.just_host_memory.proofs.files.Tree.find.Given as goal

abbrev pub invariant-loop-entry : goal.invariant-loop-entry
invariant-loop-entry l = get (files_of l.self) l.place ≡ find (slice_cmp nat_cmp) l.place (drop l.entry-index (map by_text l.entry-items))
