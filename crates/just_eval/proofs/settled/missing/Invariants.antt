-- No outcome so far is there.
use Rattle.std.proofs.Common.{◌≡◌, ℕ, None, length, get_or}
use Rattle.just_eval.proofs.settled.missing.Given as goal

abbrev pub invariant-count : goal.invariant-count
invariant-count l = record {
  size : length l.outcomes.items ≡ l.at;
  missing : (n : ℕ) → get_or l.outcomes.items n None ≡ None;
}
