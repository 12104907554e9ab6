-- There is no word, or they are those of a run.
use Rattle.just_cli.specs.Taken.{laid_in}
use Rattle.just_cli.specs.Words.{LocatedRequest}
use Rattle.just_cli.proofs.Choices.{no_words, words_short, words_replied, words_refused}
use Rattle.just_cli.proofs.choose.reply_to_words.Goals as goal

pub returns-then-not-is_any : goal.returns-then-not-is_any
returns-then-not-is_any g c =
    let q : LocatedRequest = record { config = c.args.config; environ = c.args.environ.now; location = c.args.location } in
    no_words q (laid_in c.args.wanted c.args.environ.now c.args.laid) (g.H.Host.told c.args.host.now) _ c.args.words (rw c.is_any.ensures at c.if-not-is_any.true)

pub returns-in-Err : goal.returns-in-Err
returns-in-Err g c =
    let q : LocatedRequest = record { config = c.args.config; environ = c.args.environ.now; location = c.args.location } in
    words_short q (laid_in c.args.wanted c.args.environ.now c.args.laid) (g.H.Host.told c.args.host.now) _ c.args.words (rw c.is_any.ensures at c.if-not-is_any.false)

pub returns-in-Ok-reply_allowed : goal.returns-in-Ok-reply_allowed
returns-in-Ok-reply_allowed g c =
    let q : LocatedRequest = record { config = c.args.config; environ = c.args.environ.now; location = c.args.location } in
    words_replied q (laid_in c.args.wanted c.args.environ.now c.args.laid) (g.H.Host.told c.args.host.now) _ (g.H.Host.told c.reply_allowed.new.host) _ c.args.words (rw c.is_any.ensures at c.if-not-is_any.false) _
    (rw (c.with_words-config.ensures, c.wanted_with-wanted.ensures, c.in-Ok.ensures) at c.in-Ok-reply_allowed.ensures)

pub returns : goal.returns
returns g c =
    let q : LocatedRequest = record { config = c.args.config; environ = c.args.environ.now; location = c.args.location } in
    words_refused q (laid_in c.args.wanted c.args.environ.now c.args.laid) (g.H.Host.told c.args.host.now) _ (g.H.Host.told c.reply_allowed.new.host) _ c.args.words (rw c.is_any.ensures at c.if-not-is_any.false) _
    (rw (c.with_words-config.ensures, c.wanted_with-wanted.ensures, c.in-Ok.ensures) at c.in-Err-reply_allowed.ensures)
