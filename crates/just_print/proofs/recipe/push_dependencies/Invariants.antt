-- What is left follows what was added.
use Rattle.std.proofs.Common.{◌≡◌, ◌++◌, drop, string_bytes}
use Rattle.just_print.specs.Printed.{printed_dependencies}
use Rattle.just_print.proofs.recipe.push_dependencies.Given as goal

abbrev pub invariant-dependencies : goal.invariant-dependencies
invariant-dependencies l = string_bytes l.out ++ printed_dependencies (drop l.dependency-index l.dependencies) ≡ string_bytes l.initial.out ++ printed_dependencies l.dependencies
