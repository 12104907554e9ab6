-- The elements so far and those of what is left are those of all.
use Rattle.std.proofs.Common.{◌≡◌, ◌++◌, drop}
use Rattle.std.specs.List.{flat_map}
use Rattle.just_eval_closure.proofs.argument.all_elements.Given as goal

abbrev pub invariant-values : goal.invariant-values
invariant-values l =
    l.all.items ++ flat_map (λ v. v.elements) (drop l.value-index l.values) ≡ flat_map (λ v. v.elements) l.values
