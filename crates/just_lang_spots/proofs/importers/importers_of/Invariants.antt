-- The importers so far are those among the files so far.
use Rattle.just_lang_spots.proofs.Rows.{AreImportersUpTo}
use Rattle.just_lang_spots.proofs.importers.importers_of.Given as goal

abbrev pub invariant-importers : goal.invariant-importers
invariant-importers l = AreImportersUpTo l.table l.file l.importer l.found.items
