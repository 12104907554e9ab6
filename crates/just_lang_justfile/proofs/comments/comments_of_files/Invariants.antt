-- The tables so far are those of the files so far.
use Rattle.std.proofs.Common.{take}
use Rattle.just_lang_justfile.specs.Comments.{AreCommentsOf}
use Rattle.just_lang_justfile.proofs.comments.comments_of_files.Given as goal

abbrev pub invariant-files : goal.invariant-files
invariant-files l = AreCommentsOf (take l.file-index l.files) l.all.items
