-- The reply is behind the values of the variables; or one of the steps is refused.
use Rattle.just_cli_texts.specs.Laid.{LaidRequest, laid_by}
use Rattle.just_cli.proofs.Replying.{no_values, behind_values, refused_behind}
use Rattle.just_cli.proofs.reply.reply_loaded.Goals as goal

pub returns-in-Err-clause-refused : goal.returns-in-Err-clause-refused
returns-in-Err-clause-refused c =
    let q : LaidRequest = record { wanted = c.args.wanted.now; environ = c.args.environ.now; laid = laid_by c.args.laid.now } in
    no_values c.args.config.now q c.args.dotenv.now _ c.in-Err.ensures.refused

pub returns-in-Ok-reply_behind-clause-reply : goal.returns-in-Ok-reply_behind-clause-reply
returns-in-Ok-reply_behind-clause-reply c =
    let q : LaidRequest = record { wanted = c.args.wanted.now; environ = c.args.environ.now; laid = laid_by c.args.laid.now } in
    behind_values c.args.config.now q c.args.dotenv.now _ c.in-Ok.ensures.scopes _ c.in-Ok-reply_behind.ensures.reply

pub returns-clause-refused : goal.returns-clause-refused
returns-clause-refused c =
    let q : LaidRequest = record { wanted = c.args.wanted.now; environ = c.args.environ.now; laid = laid_by c.args.laid.now } in
    refused_behind c.args.config.now q c.args.dotenv.now _ c.in-Ok.ensures.scopes _ c.in-Err-reply_behind.ensures.refused
