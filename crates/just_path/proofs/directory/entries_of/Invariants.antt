-- The items that are left, and the entries so far from the last on, are the entries of all; there is room for those that are left.
use Rattle.std.proofs.Common.{◌≡◌, ◌≤◌, ◌+◌, ◌++◌, map, reverse, vec_len, vec_capacity}
use Rattle.just_path.specs.Path.{text_of}
use Rattle.just_path.specs.Directory.{entry_of}
use Rattle.just_path.proofs.directory.entries_of.Given as goal

abbrev pub invariant-loop-item : goal.invariant-loop-item
invariant-loop-item l = record {
  entries : map (entry_of (text_of l.folder)) l.left.items ++ reverse l.entries.items ≡ map (entry_of (text_of l.folder)) l.fn.items.items;
  room : vec_len l.entries + vec_len l.left ≤ vec_capacity l.entries;
}

abbrev pub decreases-loop-item : goal.decreases-loop-item
decreases-loop-item l = vec_len l.left
