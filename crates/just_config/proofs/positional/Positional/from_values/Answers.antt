-- One more word is an override.
use Rattle.std.proofs.Common.{◌≡◌, ◌-◌, ◌++◌, ℕ, List, drop, length, take, subst, sym}
use Rattle.just_config.specs.Positional.{overrides_in}
use Rattle.just_config.proofs.ConfigSteps.{override_at_first, behind_at_first}
use Rattle.just_config.proofs.positional.Positional.from_values.Goals as goal

pub words-preserved : goal.words-preserved
words-preserved c = record {
  overrides =
      subst (λ (xs : List (List ℕ × List ℕ)). xs ++ overrides_in (take (length c.words.rest.now - 1) (drop 1 c.words.rest.now)) ≡ overrides_in c.args.words.now) (sym c.in_ok-add_pair.ensures)
      (override_at_first c.words.overrides.items c.word-item.result c.as_str.result.now c.in-Some.name.now c.in-Some.value.now c.words.rest.now _ c.in-len1-up.len_at_least c.word-item.is c.as_str.ensures
      c.in-Some.ensures.0 c.in-Some.ensures.1 c.in-Some.ensures.2 c.words.invariant.overrides);
  behind = behind_at_first c.word-item.result c.as_str.result.now c.words.rest.now _ c.in-len1-up.len_at_least c.word-item.is c.as_str.ensures c.in-Some.ensures.0 c.words.invariant.behind;
}
