-- The files so far are those of the sources so far.
use Rattle.std.proofs.Common.{take}
use Rattle.just_lang_layout.specs.Files.{AreFilesOf}
use Rattle.just_lang_layout.proofs.laid.files_of.Given as goal

abbrev pub invariant-loop-source : goal.invariant-loop-source
invariant-loop-source l = AreFilesOf (take l.source-index l.sources) l.files.items
