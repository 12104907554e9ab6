-- What is left follows what was added.
use Rattle.std.proofs.Common.{◌≡◌, ◌++◌, drop, map, string_bytes}
use Rattle.std.specs.List.{flat_map}
use Rattle.just_print_lists.specs.Evaluated.{line}
use Rattle.just_print_lists.proofs.evaluated.push_lines.Given as goal

abbrev pub invariant-variables : goal.invariant-variables
invariant-variables l =
    string_bytes l.out ++ flat_map (line l.format l.columns) (map (λ v. v.now) (drop l.variable-index l.variables)) ≡ string_bytes l.initial.out ++ flat_map (line l.format l.columns) (map (λ v. v.now) l.variables)
