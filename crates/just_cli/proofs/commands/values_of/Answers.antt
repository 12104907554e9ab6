-- What is printed behind the dotenv pairs is that of the project; or one of the steps is refused.
use Rattle.just_cli_plan.proofs.Listed.{modules_listed}
use Rattle.just_cli_plan.specs.Request.{EvaluatesVariables}
use Rattle.just_cli_plan.specs.Steps.{Then}
use Rattle.just_cli_texts.specs.Laid.{LaidRequest, laid_by}
use Rattle.just_cli.specs.Commands.{EvaluatesIt}
use Rattle.just_cli.proofs.Chain.{no_pairs, loaded_answer, loaded_refused}
use Rattle.just_cli.proofs.Planless.{values_silent}
use Rattle.just_cli.proofs.commands.values_of.Goals as goal

pub returns-in-Err-clause-values : goal.returns-in-Err-clause-values
returns-in-Err-clause-values g c =
    let q : LaidRequest = record { wanted = c.args.wanted.now; environ = c.args.environ.now; laid = laid_by c.args.laid.now } in
    no_pairs (Then EvaluatesVariables (EvaluatesIt c.args.config.now)) (g.H.Host.told c.args.host.now) (g.H.Host.told c.load_pairs.new.host) q _ (modules_listed c.args.laid.now.justfile).1 _ c.in-Err.ensures.loaded

pub returns-in-Ok-values_loaded-clause-values : goal.returns-in-Ok-values_loaded-clause-values
returns-in-Ok-values_loaded-clause-values g c =
    let q : LaidRequest = record { wanted = c.args.wanted.now; environ = c.args.environ.now; laid = laid_by c.args.laid.now } in
    loaded_answer (Then EvaluatesVariables (EvaluatesIt c.args.config.now)) (g.H.Host.told c.args.host.now) (g.H.Host.told c.load_pairs.new.host) q _ (modules_listed c.args.laid.now.justfile).1 _ _ c.as_slice.ensures _ c.in-Ok.ensures.loaded
    c.in-Ok-values_loaded.ensures.text

pub returns-clause-values : goal.returns-clause-values
returns-clause-values g c =
    let q : LaidRequest = record { wanted = c.args.wanted.now; environ = c.args.environ.now; laid = laid_by c.args.laid.now } in
    loaded_refused (Then EvaluatesVariables (EvaluatesIt c.args.config.now)) (g.H.Host.told c.args.host.now) (g.H.Host.told c.load_pairs.new.host) q _ (modules_listed c.args.laid.now.justfile).1 _ _ c.as_slice.ensures _
    (values_silent c.args.config.now _ _ _ (modules_listed c.args.laid.now.justfile).1 _ c.in-Err-values_loaded.ensures.refused) c.in-Ok.ensures.loaded c.in-Err-values_loaded.ensures.refused
