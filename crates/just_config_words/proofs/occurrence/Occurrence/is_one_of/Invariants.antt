-- None of the names so far is the option's.
use Rattle.std.proofs.Common.{◌≡◌, map, drop}
use Rattle.just_config_words.specs.Rules.{is_one_of}
use Rattle.just_config_words.proofs.occurrence.Occurrence.is_one_of.Given as goal

abbrev pub invariant-names : goal.invariant-names
invariant-names l = is_one_of (map (λ n. n.now) (drop l.name-index l.names)) l.self ≡ is_one_of (map (λ n. n.now) l.names) l.self
