-- None of the parameters so far has the name.
use Rattle.std.proofs.Common.{◌≡◌, map, drop}
use Rattle.just_lang_spots.specs.Repeated.{is_among}
use Rattle.just_lang_rules.proofs.arguments.is_parameter.Given as goal

abbrev pub invariant-parameters : goal.invariant-parameters
invariant-parameters l = is_among l.name (map (λ p. p.name.text) (drop l.parameter-index l.parameters)) ≡ is_among l.name (map (λ p. p.name.text) l.parameters)
