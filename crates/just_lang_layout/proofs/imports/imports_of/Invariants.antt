-- The rows so far are those of the files so far.
use Rattle.std.proofs.Common.{◌≡◌, take}
use Rattle.just_lang_layout.specs.Imports.{imports_of}
use Rattle.just_lang_layout.proofs.imports.imports_of.Given as goal

abbrev pub invariant-loop-row : goal.invariant-loop-row
invariant-loop-row l = l.rows.items ≡ imports_of (take l.row-index l.table)
