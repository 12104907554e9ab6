-- No file so far is imported.
use Rattle.std.proofs.Common.{◌≡◌, drop}
use Rattle.std.specs.List.{list_any}
use Rattle.just_lang_spots.specs.Winners.{is_imported}
use Rattle.just_lang_spots.proofs.winners.imports_any.Given as goal

abbrev pub invariant-files : goal.invariant-files
invariant-files l = list_any is_imported (drop l.files-index l.winners) ≡ list_any is_imported l.winners
