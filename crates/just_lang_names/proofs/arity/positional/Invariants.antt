-- The parameters so far, and those that are still to come.
use Rattle.std.proofs.Common.{◌≡◌, ◌++◌, map, not, drop}
use Rattle.std.specs.Prelude.{filter}
use Rattle.just_lang_names.specs.Arities.{has_option_name}
use Rattle.just_lang_names.proofs.arity.positional.Given as goal

abbrev pub invariant-parameters : goal.invariant-parameters
invariant-parameters l =
    map (λ p. p.now) l.kept.items ++ filter (λ p. not (has_option_name l.options p.name.text)) (drop l.parameter-index l.parameters)
    ≡ filter (λ p. not (has_option_name l.options p.name.text)) l.parameters
