-- What is joined so far, and the texts that are left, each behind a blank.
use Rattle.std.proofs.Common.{◌≡◌, ◌∷◌, ◌++◌, drop, string_bytes}
use Rattle.std.specs.List.{flat_map}
use Rattle.just_host_memory.specs.Playing.{joined}
use Rattle.just_host_memory.proofs.plot.joined.Given as goal

abbrev pub invariant-loop-text : goal.invariant-loop-text
invariant-loop-text l = string_bytes l.whole ++ flat_map (λ u. 32 ∷ u) (drop l.text-index l.rest) ≡ joined l.texts
