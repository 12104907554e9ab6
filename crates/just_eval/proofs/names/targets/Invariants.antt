-- The numbers so far and those of the names that are left are those of all.
use Rattle.std.proofs.Common.{◌≡◌, ◌++◌, drop, map}
use Rattle.std.specs.BTreeMap.{get}
use Rattle.std.specs.List.{filter_map}
use Rattle.just_eval_closure.specs.Numbers.{text_cmp}
use Rattle.just_eval.specs.Uses.{names_in}
use Rattle.just_eval.proofs.names.targets.Given as goal

abbrev pub invariant-names : goal.invariant-names
invariant-names l =
    l.targets.items ++ filter_map (λ n. get text_cmp l.numbers n) (map (λ n. n.now) (drop l.name-index l.name-items)) ≡ filter_map (λ n. get text_cmp l.numbers n) (names_in l.expr)
