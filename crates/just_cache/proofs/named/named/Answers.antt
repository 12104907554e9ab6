-- Of each name the last sum stays.
use Rattle.std.proofs.Common.{map}
use Rattle.just_cache.specs.Maps.{with_digits}
use Rattle.just_cache.proofs.Puts.{last_put}
use Rattle.just_cache.proofs.named.named.Goals as goal

pub returns : goal.returns
returns c =
    last_put (map with_digits c.args.given.now) _ _ c.put_sums.new.digits c.new-digits.ensures.empty c.in_ok-put_sums.ensures c.len-count.ensures.ordered c.in_ok-list.ensures
