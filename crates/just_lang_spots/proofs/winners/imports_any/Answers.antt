-- One more file is imported or isn't.
use Rattle.std.proofs.Common.{◌∙◌, ap}
use Rattle.just_lang_spots.specs.Winners.{is_imported}
use Rattle.just_lang_spots.proofs.ListLaws.{any_found, any_passed}
use Rattle.just_lang_spots.proofs.winners.imports_any.Goals as goal

pub returns-then-is_imported : goal.returns-then-is_imported
returns-then-is_imported c =
    any_found is_imported c.args.winners.now c.files.files-index c.files-item.result c.is_imported.result c.files-test.true (c.is_imported.ensures ∙ ap is_imported c.files-item.is) c.if-is_imported.true c.files.invariant

pub files-preserved : goal.files-preserved
files-preserved c =
    any_passed is_imported c.args.winners.now c.files.files-index c.files-item.result c.is_imported.result c.files-test.true (c.is_imported.ensures ∙ ap is_imported c.files-item.is) c.if-is_imported.false c.files.invariant
