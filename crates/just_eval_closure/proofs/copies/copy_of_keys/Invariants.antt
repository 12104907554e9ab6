-- The copies so far are the keys so far.
use Rattle.std.proofs.Common.{◌≡◌, ◌++◌, drop}
use Rattle.just_eval_closure.proofs.copies.copy_of_keys.Given as goal

abbrev pub invariant-keys : goal.invariant-keys
invariant-keys l = l.copies.items ++ drop l.key-index l.keys ≡ l.keys
