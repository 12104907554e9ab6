-- The places that are left make of the tree so far what all of them make of the first one, and there is memory for them.
use Rattle.std.proofs.Common.{◌≡◌, ◌+◌, ◌≤◌, length, vec_len, vec_capacity}
use Rattle.just_host_memory.specs.Files.{files_in}
use Rattle.just_host_memory.specs.Trees.{with_folders_at}
use Rattle.just_host_memory.proofs.new_folders.put_folders.Given as goal

abbrev pub invariant-places : goal.invariant-places
invariant-places l = record {
  tree : with_folders_at (files_in l.things.items) l.left.items ≡ with_folders_at (files_in l.initial.things.items) l.initial.left.items;
  room : vec_len l.things + vec_len l.left ≤ vec_capacity l.things;
}

abbrev pub decreases-places : goal.decreases-places
decreases-places l = length l.left.items
