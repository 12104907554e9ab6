-- The changes that are left make of the tree so far what all of them make of the first one, and there is memory for them.
use Rattle.std.proofs.Common.{◌≡◌, ◌+◌, ◌≤◌, length, vec_len, vec_capacity}
use Rattle.std.specs.Vec.Iter.{into_iter_items}
use Rattle.just_host_memory.specs.Files.{files_in}
use Rattle.just_host_memory.specs.Playing.{after_changes}
use Rattle.just_host_memory.proofs.files.apply.Given as goal

abbrev pub invariant-loop-place : goal.invariant-loop-place
invariant-loop-place l =
    record {
      can : (goal.iterator-loop-place).can_next l.place-iterator;
      finite : (goal.iterator-loop-place).is_finite l.place-iterator;
      tree : after_changes (files_in l.things.items) (into_iter_items l.place-iterator) (into_iter_items l.changes) ≡ after_changes (files_in l.initial.things.items) l.fn.places.items l.fn.effects.items;
      room : vec_len l.things + length (into_iter_items l.place-iterator) ≤ vec_capacity l.things;
    }
