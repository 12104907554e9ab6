-- What stands before the first `}` lacks it, and so does a text where none is found.
use Rattle.std.proofs.Common.{refl, lit<}
use Rattle.just_expand.proofs.Splits.{split_some, lacks_all}
use Rattle.just_expand.proofs.piece.split_braced.Goals as goal

pub read_inside-requires : goal.read_inside-requires
read_inside-requires c =
    (split_some 125 c.args.behind.now c.split_once.result c.in-Some.inside c.in-Some.rest c.split_once.ensures.cases (lit< tt) c.in-Some.is).1

pub returns-in-None : goal.returns-in-None
returns-in-None c = (refl, lacks_all 125 c.args.behind.now c.in-None.ensures.cases (lit< tt))
