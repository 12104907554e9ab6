-- The child behind the dotenv pairs is that of the project; or one of the steps is refused.
use Rattle.just_cli_plan.proofs.Listed.{modules_listed}
use Rattle.just_cli_plan.specs.Request.{EvaluatesVariables}
use Rattle.just_cli_plan.specs.Steps.{Then}
use Rattle.just_cli_texts.specs.Laid.{LaidRequest, laid_by}
use Rattle.just_cli.specs.Commands.{InvokesIt}
use Rattle.just_cli.proofs.Chain.{no_pairs, loaded_answer, loaded_refused}
use Rattle.just_cli.proofs.Planless.{invocation_silent}
use Rattle.just_cli.proofs.commands.invocation_of.Goals as goal

pub returns-in-Err-clause-child : goal.returns-in-Err-clause-child
returns-in-Err-clause-child g c =
    let q : LaidRequest = record { wanted = c.args.wanted.now; environ = c.args.environ.now; laid = laid_by c.args.laid.now } in
    no_pairs (Then EvaluatesVariables (InvokesIt c.args.config.now)) (g.H.Host.told c.args.host.now) (g.H.Host.told c.load_pairs.new.host) q _ (modules_listed c.args.laid.now.justfile).1 _ c.in-Err.ensures.loaded

pub returns-in-Ok-invocation_loaded-clause-child : goal.returns-in-Ok-invocation_loaded-clause-child
returns-in-Ok-invocation_loaded-clause-child g c =
    let q : LaidRequest = record { wanted = c.args.wanted.now; environ = c.args.environ.now; laid = laid_by c.args.laid.now } in
    loaded_answer (Then EvaluatesVariables (InvokesIt c.args.config.now)) (g.H.Host.told c.args.host.now) (g.H.Host.told c.load_pairs.new.host) q _ (modules_listed c.args.laid.now.justfile).1 _ _ c.as_slice.ensures _ c.in-Ok.ensures.loaded
    c.in-Ok-invocation_loaded.ensures.child

pub returns-clause-child : goal.returns-clause-child
returns-clause-child g c =
    let q : LaidRequest = record { wanted = c.args.wanted.now; environ = c.args.environ.now; laid = laid_by c.args.laid.now } in
    loaded_refused (Then EvaluatesVariables (InvokesIt c.args.config.now)) (g.H.Host.told c.args.host.now) (g.H.Host.told c.load_pairs.new.host) q _ (modules_listed c.args.laid.now.justfile).1 _ _ c.as_slice.ensures _
    (invocation_silent c.args.config.now _ _ _ (modules_listed c.args.laid.now.justfile).1 _ c.in-Err-invocation_loaded.ensures.refused) c.in-Ok.ensures.loaded c.in-Err-invocation_loaded.ensures.refused
