-- What was taken stands in front of what is left.
use Rattle.std.proofs.Common.{◌≡◌, ◌++◌, true, length, reverse}
use Rattle.std.specs.Prelude.{All}
use Rattle.just_lang_types.specs.declared.project.Justfile.{Justfile}
use Rattle.just_lang_types.specs.Modules.{path_of}
use Rattle.just_lang_justfile.specs.Trees.{is_within, behind_those_within, paths_of}
use Rattle.just_lang_justfile.proofs.tree.take_within.Given as goal

abbrev pub invariant-modules : goal.invariant-modules
invariant-modules l =
    record {
      parts : reverse l.fn.modules.items ≡ l.inner.items ++ reverse l.modules.items;
      within : All (λ (j : Justfile). is_within l.path (path_of j).components ≡ true) l.inner.items;
      others : behind_those_within l.path (paths_of (reverse l.modules.items)) ≡ behind_those_within l.path (paths_of (reverse l.fn.modules.items));
    }

abbrev pub decreases-modules : goal.decreases-modules
decreases-modules l = length l.modules.items
