-- The paths so far are those of the files so far.
use Rattle.std.proofs.Common.{◌≡◌, take}
use Rattle.just_lang_layout.specs.Targets.{paths_of}
use Rattle.just_lang_layout.proofs.target.paths_of.Given as goal

abbrev pub invariant-loop-file : goal.invariant-loop-file
invariant-loop-file l = l.paths.items ≡ paths_of (take l.file-index l.files)
