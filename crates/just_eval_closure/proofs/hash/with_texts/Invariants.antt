-- The texts so far and those that are left are all.
use Rattle.std.proofs.Common.{◌≡◌, drop}
use Rattle.just_eval_closure.specs.Hashes.{with_texts}
use Rattle.just_eval_closure.proofs.hash.with_texts.Given as goal

abbrev pub invariant-texts : goal.invariant-texts
invariant-texts l = with_texts l.hashed (drop l.text-index l.texts) ≡ with_texts l.hash l.texts
