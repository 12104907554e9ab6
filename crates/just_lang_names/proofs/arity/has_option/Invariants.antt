-- None of the parameters so far is an option.
use Rattle.std.proofs.Common.{◌≡◌, drop}
use Rattle.std.specs.List.{list_any}
use Rattle.just_lang_names.specs.Arities.{has_option_name}
use Rattle.just_lang_names.proofs.arity.has_option.Given as goal

abbrev pub invariant-parameters : goal.invariant-parameters
invariant-parameters l =
    list_any (λ p. has_option_name l.options p.name.text) (drop l.parameter-index l.parameters) ≡ list_any (λ p. has_option_name l.options p.name.text) l.parameters
