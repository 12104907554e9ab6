-- The names to come follow those so far.
use Rattle.std.proofs.Common.{◌≡◌, ◌++◌, drop, codes, string_bytes}
use Rattle.std.specs.Prelude.{flat_map}
use Rattle.just_cache_clean.proofs.path_text.push_names.Given as goal

abbrev pub invariant-names : goal.invariant-names
invariant-names l =
    string_bytes l.out ++ flat_map (λ n. codes "::" ++ n) (drop l.name-index l.names) ≡ string_bytes l.initial.out ++ flat_map (λ n. codes "::" ++ n) l.names
