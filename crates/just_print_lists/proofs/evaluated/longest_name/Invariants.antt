-- The longest so far, with those that are still to come.
use Rattle.std.proofs.Common.{◌≡◌, drop, map, length}
use Rattle.std.specs.List.{fold}
use Rattle.just_print_lists.specs.Evaluated.{longest_name}
use Rattle.just_print_lists.specs.Greatest.{greater}
use Rattle.just_print_lists.proofs.evaluated.longest_name.Given as goal

abbrev pub invariant-variables : goal.invariant-variables
invariant-variables l =
    fold greater l.longest (map (λ v. length v.name) (drop l.variable-index l.variables)) ≡ longest_name l.variables
