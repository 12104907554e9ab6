-- The words to come are counted on.
use Rattle.std.proofs.Common.{◌≡◌, ◌≤◌, ◌+◌, min, drop, length}
use Rattle.just_config_words.specs.Parsed.{run}
use Rattle.just_config_words.proofs.parsed.run_length.Given as goal

abbrev pub invariant-words : goal.invariant-words
invariant-words l = record {
  limited : l.count ≤ l.limit;
  counted : min l.limit (l.count + length (run l.any (drop l.word-index l.words))) ≡ min l.limit (length (run l.any l.words));
}
