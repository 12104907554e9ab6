-- A text from which no tilde is stripped, or with neither `/` nor the end behind it, needs no home.
use Rattle.std.proofs.Common.{lit<, sym}
use Rattle.just_expand.proofs.Lists.{is_not_empty}
use Rattle.just_expand.proofs.TildeLaws.{begins_with_stripped, needs_no_home_before_other}
use Rattle.just_expand.proofs.tildes.behind_tilde.Goals as goal

pub returns-in_default : goal.returns-in_default
unfolding lib.Utf8.encode
returns-in_default c = λ rest h. c.in_default.ensures.cases rest h.0

pub returns-in-None : goal.returns-in-None
unfolding lib.Utf8.encode
returns-in-None c =
    needs_no_home_before_other c.args.text.now c.in-Some.behind.now
    (begins_with_stripped 126 c.args.text.now c.strip_prefix.result c.in-Some.behind c.strip_prefix.ensures.cases (lit< tt) c.in-Some.is)
    (is_not_empty c.in-Some.behind.now (sym c.if-is_empty.ensures)) c.in-None.ensures.cases
