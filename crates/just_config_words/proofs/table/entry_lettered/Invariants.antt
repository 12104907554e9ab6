-- None of the rows so far has the letter.
use Rattle.std.proofs.Common.{◌≡◌, map, drop}
use Rattle.just_config_words.specs.Table.{row_of, lettered_among}
use Rattle.just_config_words.proofs.table.entry_lettered.Given as goal

abbrev pub invariant-rows : goal.invariant-rows
invariant-rows l = lettered_among (map row_of (drop l.row-index l.row-items)) l.letter ≡ lettered_among (map row_of l.row-items) l.letter
