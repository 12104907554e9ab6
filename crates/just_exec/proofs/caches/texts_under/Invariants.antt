-- The texts so far and those of what is left are those of all.
use Rattle.std.proofs.Common.{◌≡◌, ◌++◌, ℕ, List, drop, map}
use Rattle.std.specs.List.{filter}
use Rattle.just_exec.specs.Caches.{has_key}
use Rattle.just_exec.proofs.caches.texts_under.Given as goal

abbrev pub invariant-texts : goal.invariant-texts
invariant-texts l = l.found.items ++ map (λ (p : List ℕ × List ℕ). p.1) (filter (has_key l.key) (drop l.pair-index l.texts)) ≡ map (λ (p : List ℕ × List ℕ). p.1) (filter (has_key l.key) l.texts)
