-- The reply behind the dotenv pairs is that of the project; or one of the steps is refused.
use Rattle.just_cli_plan.proofs.Listed.{modules_listed}
use Rattle.just_cli.proofs.Chain.{no_pairs, loaded_answer, loaded_refused}
use Rattle.just_cli.proofs.Planless.{reply_silent}
use Rattle.just_cli.specs.Replies.{RepliesLoaded}
use Rattle.just_cli_texts.specs.Laid.{LaidRequest, laid_by}
use Rattle.just_cli.proofs.reply.reply_of.Goals as goal

pub returns-in-Err : goal.returns-in-Err
returns-in-Err g c =
    let q : LaidRequest = record { wanted = c.args.wanted.now; environ = c.args.environ.now; laid = laid_by c.args.laid.now } in
    no_pairs (RepliesLoaded c.args.config.now q) (g.H.Host.told c.args.host.now) (g.H.Host.told c.load_pairs.new.host) q _ (modules_listed c.args.laid.now.justfile).1 _ c.in-Err.ensures.loaded

pub returns-in-Ok-reply_loaded : goal.returns-in-Ok-reply_loaded
returns-in-Ok-reply_loaded g c =
    let q : LaidRequest = record { wanted = c.args.wanted.now; environ = c.args.environ.now; laid = laid_by c.args.laid.now } in
    loaded_answer (RepliesLoaded c.args.config.now q) (g.H.Host.told c.args.host.now) (g.H.Host.told c.load_pairs.new.host) q _ (modules_listed c.args.laid.now.justfile).1 _ _ c.as_slice.ensures _ c.in-Ok.ensures.loaded c.in-Ok-reply_loaded.ensures.reply

pub returns : goal.returns
returns g c =
    let q : LaidRequest = record { wanted = c.args.wanted.now; environ = c.args.environ.now; laid = laid_by c.args.laid.now } in
    loaded_refused (RepliesLoaded c.args.config.now q) (g.H.Host.told c.args.host.now) (g.H.Host.told c.load_pairs.new.host) q _ (modules_listed c.args.laid.now.justfile).1 _ _ c.as_slice.ensures _
    (reply_silent c.args.config.now q _ _ _ (modules_listed c.args.laid.now.justfile).1 _ c.in-Err-reply_loaded.ensures.refused) c.in-Ok.ensures.loaded c.in-Err-reply_loaded.ensures.refused
