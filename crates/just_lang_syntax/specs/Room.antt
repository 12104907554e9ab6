-- How much room the items of a text take at most.
use Rattle.std.specs.Prelude.{ℕ, Bool, true, false, List, filter, length}
use Rattle.just_lang_syntax.specs.declared.entry.Entry.{Entry}
use Rattle.just_lang_syntax.specs.declared.entry.Entry.TheVariants as entry

-- whether an entry may make an item: any but a line of a body
abbrev pub may_be_item : Entry → Bool
may_be_item (entry.Blank number) = true
may_be_item (entry.Item x) = true
may_be_item (entry.Recipe x) = true
may_be_item (entry.Line x) = false

-- how many items these entries make at most
abbrev pub most_items : List Entry → ℕ
most_items xs = length (filter may_be_item xs)
