-- What was found is that of the assignments so far.
use Rattle.std.proofs.Common.{◌≡◌, take, map}
use Rattle.std.specs.BTreeMap.{get}
use Rattle.std.specs.List.{filter_map}
use Rattle.just_eval_closure.specs.Numbers.{text_cmp}
use Rattle.just_eval.specs.Uses.{names_in}
use Rattle.just_eval.proofs.names.edges.Given as goal

abbrev pub invariant-assignments : goal.invariant-assignments
invariant-assignments l =
    l.edges.items ≡ map (λ a. filter_map (λ n. get text_cmp l.numbers n) (names_in a.value)) (take l.assignment-index l.assignments)
