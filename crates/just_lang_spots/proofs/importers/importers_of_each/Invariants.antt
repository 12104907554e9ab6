-- The rows so far are those of the files so far.
use Rattle.just_lang_spots.proofs.Rows.{AreImportersOfEachUpTo}
use Rattle.just_lang_spots.proofs.importers.importers_of_each.Given as goal

abbrev pub invariant-files : goal.invariant-files
invariant-files l = AreImportersOfEachUpTo l.table l.file l.winners.items
