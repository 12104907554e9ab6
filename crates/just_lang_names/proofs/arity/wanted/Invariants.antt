-- The parameters so far, and those that are still to come.
use Rattle.std.proofs.Common.{◌≡◌, ◌++◌, map, drop}
use Rattle.std.specs.Prelude.{filter}
use Rattle.just_lang_rules.specs.ParameterSpots.{wants_value}
use Rattle.just_lang_names.proofs.arity.wanted.Given as goal

abbrev pub invariant-parameters : goal.invariant-parameters
invariant-parameters l =
    map (λ p. p.now) l.kept.items ++ filter wants_value (map (λ p. p.now) (drop l.parameter-index l.parameters))
    ≡ filter wants_value (map (λ p. p.now) l.parameters)
