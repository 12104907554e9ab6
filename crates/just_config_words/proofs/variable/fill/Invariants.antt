-- None of the rows so far has an ill variable, and what they give is added to the options of the words.
use Rattle.std.proofs.Common.{◌≡◌, ◌++◌, ◌≤◌, map, drop, take, length}
use Rattle.just_config_words.specs.Table.{row_of}
use Rattle.just_config_words.specs.Variables.{first_ill, from_variables}
use Rattle.just_config_words.proofs.variable.fill.Given as goal

abbrev pub invariant-rows : goal.invariant-rows
invariant-rows l = record {
  counted : l.count ≡ length l.fn.given.items;
  within : l.count ≤ length l.given.items;
  words : take l.count l.given.items ≡ l.fn.given.items;
  ill : first_ill l.environ.pairs l.fn.given.items (map row_of (drop l.row-index l.row-items)) ≡ first_ill l.environ.pairs l.fn.given.items (map row_of l.row-items);
  filled : l.given.items ++ from_variables l.environ.pairs l.fn.given.items (map row_of (drop l.row-index l.row-items)) ≡ l.fn.given.items ++ from_variables l.environ.pairs l.fn.given.items (map row_of l.row-items);
}
