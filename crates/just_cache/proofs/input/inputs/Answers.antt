-- The sums as a map.
use Rattle.just_path.specs.Path.{text_of}
use Rattle.just_cache.proofs.Steps.{inputs_given}
use Rattle.just_cache.proofs.input.inputs.Goals as goal

pub returns-clause-inputs : goal.returns-clause-inputs
returns-clause-inputs g c =
    inputs_given (g.H.Host.told c.args.host.now) _ (text_of c.args.folder) c.args.names.now c.in-Ok.given.items c.as_slice.result.now c.in_ok-pairs.pairs c.in-Ok.ensures.sums c.as_slice.ensures.value c.in_ok-pairs.ensures
