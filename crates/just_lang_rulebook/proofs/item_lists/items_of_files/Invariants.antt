-- The items of the files so far, and those that are still to come.
use Rattle.std.proofs.Common.{◌≡◌, ◌++◌, drop}
use Rattle.just_lang_spots.specs.Entries.{entries}
use Rattle.just_lang_layout.specs.Items.{items_from, items_of_files}
use Rattle.just_lang_rulebook.proofs.item_lists.items_of_files.Given as goal

abbrev pub invariant-files : goal.invariant-files
invariant-files l = entries l.all.items ++ items_from l.number (drop l.number l.files) ≡ items_of_files l.files
