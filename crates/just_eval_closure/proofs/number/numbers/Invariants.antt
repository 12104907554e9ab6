-- The numbers of the keys that are left, and those so far.
use Rattle.std.proofs.Common.{◌≡◌, ◌++◌, length, reverse}
use Rattle.just_eval_closure.specs.Places.{numbers_of}
use Rattle.just_eval_closure.specs.Ran.{places_of}
use Rattle.just_eval_closure.proofs.number.numbers.Given as goal

abbrev pub invariant-keys : goal.invariant-keys
invariant-keys l =
    numbers_of (places_of l.ran) l.round l.keys.items ++ reverse l.numbers.items ≡ numbers_of (places_of l.ran) l.round l.initial.keys.items

abbrev pub decreases-keys : goal.decreases-keys
decreases-keys l = length l.keys.items
