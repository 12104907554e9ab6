-- What the host answered, told as the sum of an input.
use Rattle.just_path.specs.Path.{text_of}
use Rattle.just_cache.proofs.Steps.{sum_refused}
use Rattle.just_cache.proofs.sums.sum_of.Goals as goal

pub returns-in-Err-clause-sum : goal.returns-in-Err-clause-sum
returns-in-Err-clause-sum g c =
    sum_refused (g.H.Host.told c.args.host.now) _ (text_of c.args.path) c.in-Err.fault _ _ c.in_ok-named.ensures c.input_error.ensures
    (record { entries = c.in-Err.ensures.entries; own = c.in-Err.ensures.own; shown = c.in-Err.ensures.told; world = c.in-Err.ensures.world })
