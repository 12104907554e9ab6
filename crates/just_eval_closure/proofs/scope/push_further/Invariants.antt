-- What is left follows what was added.
use Rattle.std.proofs.Common.{◌≡◌, ◌++◌, drop, string_bytes}
use Rattle.just_eval_closure.specs.Scopes.{further}
use Rattle.just_eval_closure.proofs.scope.push_further.Given as goal

abbrev pub invariant-elements : goal.invariant-elements
invariant-elements l = string_bytes l.text ++ further (drop l.element-index l.elements) ≡ string_bytes l.initial.text ++ further l.elements
