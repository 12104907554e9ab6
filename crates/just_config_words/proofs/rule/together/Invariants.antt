-- The options to come go on from those so far.
use Rattle.std.proofs.Common.{◌≡◌, map, take, drop}
use Rattle.std.specs.List.{list_any}
use Rattle.just_config_words.specs.Rules.{is_one_of, later_word, together}
use Rattle.just_config_words.proofs.rule.together.Given as goal

abbrev pub invariant-given : goal.invariant-given
invariant-given l = record {
  first : l.had_first ≡ list_any (is_one_of (map (λ n. n.now) l.first)) (take l.occurrence-index l.given);
  second : l.had_second ≡ list_any (is_one_of (map (λ n. n.now) l.second)) (take l.occurrence-index l.given);
  rest :
      later_word (is_one_of (map (λ n. n.now) l.first)) (is_one_of (map (λ n. n.now) l.second)) (take l.occurrence-index l.given) (drop l.occurrence-index l.given)
      ≡ together (is_one_of (map (λ n. n.now) l.first)) (is_one_of (map (λ n. n.now) l.second)) l.given;
}
