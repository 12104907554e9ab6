-- What is left follows what was added.
use Rattle.std.proofs.Common.{◌≡◌, ◌++◌, drop, codes, string_bytes}
use Rattle.std.specs.List.{flat_map}
use Rattle.just_cli_texts.proofs.choices.push_spaced.Given as goal

abbrev pub invariant-names : goal.invariant-names
invariant-names l = string_bytes l.out ++ flat_map (λ n. n ++ codes " ") (drop l.name-index l.names) ≡ string_bytes l.initial.out ++ flat_map (λ n. n ++ codes " ") l.names
