-- Plain text goes to the first `$`, or to the end.
use Rattle.std.proofs.Common.{sym}
use Rattle.just_expand.proofs.Lists.{is_not_empty}
use Rattle.just_expand.proofs.Splits.{plain_before, plain_all}
use Rattle.just_expand.proofs.piece.split_piece.Goals as goal

pub returns-in-Some-find : goal.returns-in-Some-find
unfolding lib.Utf8.encode
returns-in-Some-find c =
    let f = c.in-Some-find.ensures.cases in
    plain_before c.args.text.now c.split_at.result.0.now c.split_at.result.1.now c.in-Some-find.end f.0 f.1 c.split_at.ensures.front c.split_at.ensures.back c.in_default.ensures.cases

pub returns-in-None : goal.returns-in-None
returns-in-None c = plain_all c.args.text.now c.in-None.ensures.cases (is_not_empty c.args.text.now (sym c.if-is_empty.ensures))
