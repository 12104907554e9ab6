-- The lacking folders so far, and those that may lack further up.
use Rattle.std.proofs.Common.{◌≡◌, length}
use Rattle.just_host_record.specs.NewFolders.{with_folders}
use Rattle.just_host_memory.specs.Trees.{files_of}
use Rattle.just_host_memory.proofs.Climbs.{left_up}
use Rattle.just_host_memory.proofs.files.Tree.lacking_folders.Given as goal

abbrev pub invariant-loop : goal.invariant-loop
invariant-loop l =
    left_up (files_of l.self) (length l.fn.place.path) l.counter l.lacking.items l.at.path ≡ with_folders (files_of l.self) (length l.fn.place.path) l.fn.place.path
