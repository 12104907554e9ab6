-- A module is listed, or the plan is made; or one of both is refused.
use Rattle.just_cli_texts.specs.Laid.{LaidRequest, laid_by}
use Rattle.just_cli.proofs.Replying.{lists_so, unlisted_so, plans_so, unplanned_so}
use Rattle.just_cli.proofs.reply.reply_behind.Goals as goal

pub returns-in-Ok-clause-reply : goal.returns-in-Ok-clause-reply
returns-in-Ok-clause-reply c =
    let q : LaidRequest = record { wanted = c.args.wanted.now; environ = c.args.environ.now; laid = laid_by c.args.laid.now } in
    plans_so c.args.config.now q c.args.scopes.now _ c.as_slice-words.ensures _ c.in-Ok-None.ensures c.in-Ok-None.field-0-is _ c.in-Ok.ensures.plan

pub returns-in-Ok-None-clause-refused : goal.returns-in-Ok-None-clause-refused
returns-in-Ok-None-clause-refused c =
    let q : LaidRequest = record { wanted = c.args.wanted.now; environ = c.args.environ.now; laid = laid_by c.args.laid.now } in
    unplanned_so c.args.config.now q c.args.scopes.now _ c.as_slice-words.ensures _ c.in-Ok-None.ensures c.in-Ok-None.field-0-is _ c.in-Err-planned.ensures.refused

pub returns-in-Ok-listing-clause-reply : goal.returns-in-Ok-listing-clause-reply
returns-in-Ok-listing-clause-reply c =
    let q : LaidRequest = record { wanted = c.args.wanted.now; environ = c.args.environ.now; laid = laid_by c.args.laid.now } in
    lists_so c.args.config.now q c.args.scopes.now _ c.as_slice-words.ensures _ c.in-Ok-Some.ensures _ _ c.in-Ok-Some.field-0-is c.as_slice.ensures _ c.in-Ok-listing.ensures

pub returns-in-Ok-Some-clause-refused : goal.returns-in-Ok-Some-clause-refused
returns-in-Ok-Some-clause-refused c =
    let q : LaidRequest = record { wanted = c.args.wanted.now; environ = c.args.environ.now; laid = laid_by c.args.laid.now } in
    unlisted_so c.args.config.now q c.args.scopes.now _ c.as_slice-words.ensures _ c.in-Ok-Some.ensures _ _ c.in-Ok-Some.field-0-is c.as_slice.ensures _ c.in-Err-listing.ensures
