-- What is left follows what was added.
use Rattle.std.proofs.Common.{◌≡◌, ◌++◌, drop}
use Rattle.just_lang_spots.specs.Entries.{entries}
use Rattle.just_lang_layout.specs.Items.{in_file}
use Rattle.just_cli_texts.proofs.format.entries_of.Given as goal

abbrev pub invariant-items : goal.invariant-items
invariant-items l = entries l.all.items ++ in_file 0 (drop l.item-index l.items) ≡ in_file 0 l.items
