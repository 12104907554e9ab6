-- A text in which no `$` is found is its own expansion.
use Rattle.std.proofs.Common.{lit<}
use Rattle.just_expand.specs.Code.{AnswersWithMemory}
use Rattle.just_expand.proofs.Splits.{lacks_all}
use Rattle.just_expand.proofs.WithoutDollar.{expands_to_itself}
use Rattle.just_expand.proofs.expand.expand_text.Goals as goal

pub returns-then-not-contains-clause-expanded : goal.returns-then-not-contains-clause-expanded
returns-then-not-contains-clause-expanded g c = expands_to_itself (AnswersWithMemory g.C.FnMut) c.args.context c.args.input.now (lacks_all 36 c.args.input.now c.if-not-contains.ensures.cases (lit< tt))

pub returns-then-not-contains-clause-owned : goal.returns-then-not-contains-clause-owned
returns-then-not-contains-clause-owned g c = λ b. lacks_all 36 c.args.input.now c.if-not-contains.ensures.cases (lit< tt)
