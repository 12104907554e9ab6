-- What was added, and what is still to come.
use Rattle.std.proofs.Common.{◌≡◌, ◌++◌, drop}
use Rattle.just_lang_spots.specs.Entries.{entries}
use Rattle.just_lang_layout.specs.Items.{in_file}
use Rattle.just_lang_rulebook.proofs.item_lists.push_items.Given as goal

abbrev pub invariant-items : goal.invariant-items
invariant-items l = entries l.all.items ++ in_file l.file (drop l.item-index l.items) ≡ entries l.fn.all.items ++ in_file l.file l.items
