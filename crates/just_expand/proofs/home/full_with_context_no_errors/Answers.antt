-- The home folder may be asked for by the condition on what the variables become; what they become expands fully by its tilde.
use Rattle.std.specs.Cow.{cow_str_bytes}
use Rattle.just_expand.specs.Contexts.{AnswersWithoutError, GivesHome}
use Rattle.just_expand.proofs.TildeLaws.{fully_expands}
use Rattle.just_expand.proofs.OneCut.{one_cut}
use Rattle.just_expand.proofs.WithoutDollar.{asks_nothing}
use Rattle.just_expand.proofs.home.full_with_context_no_errors.Goals as goal

pub put_own_home-requires-clause-home : goal.put_own_home-requires-clause-home
put_own_home-requires-clause-home g c = λ rest own calls. c.requires.home (cow_str_bytes c.in-Ok.expanded) rest c.in-Ok.ensures.expanded own calls

pub returns-clause-expanded : goal.returns-clause-expanded
returns-clause-expanded g c =
    fully_expands (AnswersWithoutError g.C.FnMut) (GivesHome g.H.FnOnce c.args.home_dir) c.args.context c.args.input.now
    (cow_str_bytes c.in-Ok.expanded) c.put_own_home.result c.in-Ok.ensures.expanded c.put_own_home.ensures.expanded

pub returns-clause-one_cut : goal.returns-clause-one_cut
returns-clause-one_cut g c = one_cut c.args.input.now

pub returns-clause-unasked : goal.returns-clause-unasked
returns-clause-unasked g c = λ lacks. asks_nothing (AnswersWithoutError g.C.FnMut) c.args.context c.args.input.now lacks

pub returns-in-Err-clause-one_cut : goal.returns-in-Err-clause-one_cut
returns-in-Err-clause-one_cut g c = one_cut c.args.input.now

pub returns-in-Err-clause-unasked : goal.returns-in-Err-clause-unasked
returns-in-Err-clause-unasked g c = λ lacks. asks_nothing (AnswersWithoutError g.C.FnMut) c.args.context c.args.input.now lacks
