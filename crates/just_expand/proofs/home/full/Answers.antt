-- A text has one cut at most, and one without `$` asks for nothing.
use Rattle.just_expand.specs.Contexts.{EnvironAnswers}
use Rattle.just_expand.proofs.OneCut.{one_cut}
use Rattle.just_expand.proofs.WithoutDollar.{asks_nothing}
use Rattle.just_expand.proofs.home.full.Goals as goal

pub returns-in-Err-clause-one_cut : goal.returns-in-Err-clause-one_cut
returns-in-Err-clause-one_cut c = one_cut c.args.input.now

pub returns-in-Err-clause-unasked : goal.returns-in-Err-clause-unasked
returns-in-Err-clause-unasked c = λ lacks. asks_nothing EnvironAnswers c.args.environ.now.pairs c.args.input.now lacks

pub returns-in-Ok-put_known_home-clause-one_cut : goal.returns-in-Ok-put_known_home-clause-one_cut
returns-in-Ok-put_known_home-clause-one_cut c = one_cut c.args.input.now

pub returns-in-Ok-put_known_home-clause-unasked : goal.returns-in-Ok-put_known_home-clause-unasked
returns-in-Ok-put_known_home-clause-unasked c = λ lacks. asks_nothing EnvironAnswers c.args.environ.now.pairs c.args.input.now lacks

pub returns-in-Err-put_known_home-clause-one_cut : goal.returns-in-Err-put_known_home-clause-one_cut
returns-in-Err-put_known_home-clause-one_cut c = one_cut c.args.input.now

pub returns-in-Err-put_known_home-clause-unasked : goal.returns-in-Err-put_known_home-clause-unasked
returns-in-Err-put_known_home-clause-unasked c = λ lacks. asks_nothing EnvironAnswers c.args.environ.now.pairs c.args.input.now lacks
