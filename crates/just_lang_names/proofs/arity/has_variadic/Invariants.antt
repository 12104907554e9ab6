-- None of the parameters so far takes any number of arguments.
use Rattle.std.proofs.Common.{◌≡◌, map, drop}
use Rattle.std.specs.List.{list_any}
use Rattle.just_lang_names.specs.TargetSpots.{is_variadic}
use Rattle.just_lang_names.proofs.arity.has_variadic.Given as goal

abbrev pub invariant-parameters : goal.invariant-parameters
invariant-parameters l =
    list_any (λ p. is_variadic p.kind) (map (λ p. p.now) (drop l.parameter-index l.parameters)) ≡ list_any (λ p. is_variadic p.kind) (map (λ p. p.now) l.parameters)
