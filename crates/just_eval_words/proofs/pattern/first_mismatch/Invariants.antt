-- The first one is among those that are left.
use Rattle.std.proofs.Common.{◌≡◌, drop, find, not}
use Rattle.std.specs.List.{list_any}
use Rattle.just_eval_words.specs.Patterns.{matches}
use Rattle.just_eval_words.proofs.pattern.first_mismatch.Given as goal

abbrev pub invariant-values : goal.invariant-values
invariant-values l =
    find (λ v. not (list_any (λ p. matches p v) l.pattern.texts)) (drop l.value-index l.values) ≡ find (λ v. not (list_any (λ p. matches p v) l.pattern.texts)) l.values
