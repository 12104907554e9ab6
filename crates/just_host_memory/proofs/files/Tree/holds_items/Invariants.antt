-- What stands below the place is among the things that are left.
use Rattle.just_host_memory.specs.Trees.{files_of}
use Rattle.just_host_memory.proofs.Below.{IsAmongFrom}
use Rattle.just_host_memory.proofs.files.Tree.holds_items.Given as goal

abbrev pub invariant-loop-entry : goal.invariant-loop-entry
invariant-loop-entry l = IsAmongFrom (files_of l.self) l.place.path l.entry-items l.entry-index
