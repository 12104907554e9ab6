-- The rows so far are those of the files so far.
use Rattle.just_lang_spots.proofs.Rows.{AreReachedUpTo}
use Rattle.just_lang_spots.proofs.importers.reached_of_each.Given as goal

abbrev pub invariant-files : goal.invariant-files
invariant-files l = AreReachedUpTo l.edges l.file l.table.items
