-- Those to come are counted on.
use Rattle.std.proofs.Common.{◌≡◌, ◌≤◌, ◌+◌, min, drop}
use Rattle.just_config_words.specs.Occurrences.{times}
use Rattle.just_config_words.proofs.occurrence.times.Given as goal

abbrev pub invariant-occurrences : goal.invariant-occurrences
invariant-occurrences l = record {
  limited : l.count ≤ 255;
  counted : min 255 (l.count + times l.name (drop l.occurrence-index l.occurrences)) ≡ min 255 (times l.name l.occurrences);
}
