-- The numbers so far.
use Rattle.std.proofs.Common.{ℕ, ◌<◌}
use Rattle.std.specs.List.{All, Contains}
use Rattle.just_eval.proofs.ending.numbers_below.Given as goal

abbrev pub invariant-count : goal.invariant-count
invariant-count l = record {
  within : All (λ n. n < l.count) l.below.items;
  all : (n : ℕ) → n < l.at → Contains l.below.items n;
}
