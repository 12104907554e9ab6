-- What the modules have is what their project has; a refusal is told as an error of the run.
use Rattle.just_cli_plan.proofs.Loading.{pairs_refused}
use Rattle.just_cli_plan.proofs.pairs.load_pairs.Goals as goal

pub returns-in-Err : goal.returns-in-Err
returns-in-Err g c = record {
  loaded =
      pairs_refused (g.H.Host.told c.args.host.now) (g.H.Host.told c.load_modules.new.host) c.args.wanted.now c.args.environ.now c.args.justfile.now
      c.in-Err.error _ c.from.ensures c.in-Err.ensures.loaded c.in-Err.ensures.program;
}
