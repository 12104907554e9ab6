-- The targets so far are those of the files so far.
use Rattle.std.proofs.Common.{take}
use Rattle.just_lang_layout.specs.Targets.{AreFileTargets}
use Rattle.just_lang_layout.proofs.target.file_targets.Given as goal

abbrev pub invariant-loop-file : goal.invariant-loop-file
invariant-loop-file l = AreFileTargets l.environ.pairs l.paths.all.items (take l.file-index l.files) l.table.items
