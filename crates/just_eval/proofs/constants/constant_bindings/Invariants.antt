-- The constants to come follow those so far.
use Rattle.std.proofs.Common.{◌≡◌, ◌++◌, [], false, drop, map}
use Rattle.std.specs.Option.{unwrap_or}
use Rattle.just_lang_types.specs.Constants.{constant_of}
use Rattle.just_eval_closure.specs.Scopes.{value_of_text}
use Rattle.just_eval.proofs.constants.constant_bindings.Given as goal

abbrev pub invariant-names : goal.invariant-names
invariant-names l =
    l.bindings.items ++ map (λ n. record { name = n.now; value = value_of_text (unwrap_or (constant_of n.now) []); export = false }) (drop l.name-index l.names)
    ≡ map (λ n. record { name = n.now; value = value_of_text (unwrap_or (constant_of n.now) []); export = false }) l.names
