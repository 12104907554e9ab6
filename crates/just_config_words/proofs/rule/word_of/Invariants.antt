-- None so far has one of the names.
use Rattle.std.proofs.Common.{◌≡◌, map, drop}
use Rattle.just_config_words.specs.Rules.{word_of}
use Rattle.just_config_words.proofs.rule.word_of.Given as goal

abbrev pub invariant-given : goal.invariant-given
invariant-given l = word_of (map (λ n. n.now) l.names) (drop l.occurrence-index l.given) ≡ word_of (map (λ n. n.now) l.names) l.given
