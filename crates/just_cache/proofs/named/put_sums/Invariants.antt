-- The sums to come are put behind those so far.
use Rattle.std.proofs.Common.{◌≡◌, drop, map}
use Rattle.just_cache.specs.Maps.{put_all, with_digits}
use Rattle.just_cache.proofs.named.put_sums.Given as goal

abbrev pub invariant-given : goal.invariant-given
invariant-given l = put_all l.digits.entries (map with_digits (drop l.one-index l.given)) ≡ put_all l.initial.digits.entries (map with_digits l.given)
