-- The bytes so far and those that are left are all.
use Rattle.std.proofs.Common.{◌≡◌, drop}
use Rattle.std.specs.List.{fold}
use Rattle.just_eval_closure.specs.Hashes.{with_digit}
use Rattle.just_eval_closure.proofs.hash.with_text.Given as goal

abbrev pub invariant-bytes : goal.invariant-bytes
invariant-bytes l = fold with_digit l.hashed (drop l.byte-index l.text) ≡ fold with_digit l.hash l.text
