-- What is printed is behind the values of the variables; or one of the steps is refused.
use Rattle.just_cli.proofs.Commanding.{unvalued, unevaluated_so}
use Rattle.just_cli.proofs.Valued.{evaluates_shown}
use Rattle.just_cli_texts.specs.Laid.{LaidRequest, laid_by}
use Rattle.just_cli.proofs.commands.values_loaded.Goals as goal

pub returns-in-Err-clause-refused : goal.returns-in-Err-clause-refused
returns-in-Err-clause-refused c =
    let q : LaidRequest = record { wanted = c.args.wanted.now; environ = c.args.environ.now; laid = laid_by c.args.laid.now } in
    unvalued c.args.config.now q c.args.dotenv.now _ c.in-Err.ensures.refused

pub returns-in-Ok-evaluate-clause-text : goal.returns-in-Ok-evaluate-clause-text
returns-in-Ok-evaluate-clause-text c =
    let q : LaidRequest = record { wanted = c.args.wanted.now; environ = c.args.environ.now; laid = laid_by c.args.laid.now } in
    evaluates_shown c.args.config.now q c.args.dotenv.now _ c.in-Ok.ensures.scopes _ _ c.alone.ensures (rw c.as_slice.ensures at c.in-Ok-evaluate.ensures.text)

pub returns-clause-refused : goal.returns-clause-refused
returns-clause-refused c =
    let q : LaidRequest = record { wanted = c.args.wanted.now; environ = c.args.environ.now; laid = laid_by c.args.laid.now } in
    unevaluated_so c.args.config.now q c.args.dotenv.now _ c.in-Ok.ensures.scopes _ (rw c.as_slice.ensures at c.in-Err-evaluate.ensures.refused)
