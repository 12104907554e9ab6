-- What is stripped at the end.
use Rattle.std.proofs.Common.{Some, None}
use Rattle.just_eval.proofs.Marks.{stripped}
use Rattle.just_eval.proofs.continuation.before_mark.Goals as goal

pub returns-in-Some : goal.returns-in-Some
returns-in-Some c = stripped c.args.text.now (Some c.in-Some.front) c.in-Some.ensures.cases

pub returns-in-None : goal.returns-in-None
returns-in-None c = stripped c.args.text.now None c.in-None.ensures.cases
