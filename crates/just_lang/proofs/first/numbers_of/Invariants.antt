-- The numbers so far are those of the keys so far.
use Rattle.std.proofs.Common.{◌≡◌, take, map}
use Rattle.just_lang.proofs.first.numbers_of.Given as goal

abbrev pub invariant-keys : goal.invariant-keys
invariant-keys l = l.numbers.items ≡ map (λ k. k.3) (take l.key-index l.keys)
