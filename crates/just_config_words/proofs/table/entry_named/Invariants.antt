-- None of the rows so far has the name.
use Rattle.std.proofs.Common.{◌≡◌, map, drop}
use Rattle.just_config_words.specs.Table.{row_of, entry_among}
use Rattle.just_config_words.proofs.table.entry_named.Given as goal

abbrev pub invariant-rows : goal.invariant-rows
invariant-rows l = entry_among (map row_of (drop l.row-index l.row-items)) l.name ≡ entry_among (map row_of l.row-items) l.name
