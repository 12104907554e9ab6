-- The names to come follow those so far.
use Rattle.std.proofs.Common.{◌≡◌, ◌++◌, drop, codes, string_bytes}
use Rattle.std.specs.Prelude.{flat_map}
use Rattle.just_cache.specs.Members.{path_text}
use Rattle.just_cache.proofs.member.path_text.Given as goal

abbrev pub invariant-rest : goal.invariant-rest
invariant-rest l = string_bytes l.text ++ flat_map (λ name. codes "::" ++ name) (drop l.name-index l.rest) ≡ path_text l.fn.names
