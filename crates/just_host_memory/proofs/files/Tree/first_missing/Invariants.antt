-- The first missing output is the first one of those that are left.
use Rattle.std.proofs.Common.{◌≡◌, drop}
use Rattle.std.specs.List.{position_from}
use Rattle.just_host_record.specs.Looks.{is_missing, first_missing}
use Rattle.just_host_memory.specs.Trees.{files_of, view_from}
use Rattle.just_host_memory.proofs.files.Tree.first_missing.Given as goal

abbrev pub invariant-loop-i : goal.invariant-loop-i
invariant-loop-i l =
    first_missing (view_from l.folder.path (files_of l.self)) l.outputs ≡ position_from (λ o. is_missing (view_from l.folder.path (files_of l.self)) o) l.i (drop l.i l.outputs)
