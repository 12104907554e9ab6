-- What is left follows what was added.
use Rattle.std.proofs.Common.{◌≡◌, ◌++◌, drop}
use Rattle.just_eval_closure.proofs.argument.push_elements.Given as goal

abbrev pub invariant-elements : goal.invariant-elements
invariant-elements l =
    l.all.items ++ drop l.element-index l.elements ≡ l.initial.all.items ++ l.elements
