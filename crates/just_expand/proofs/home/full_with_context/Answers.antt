-- The home folder may be asked for by the condition on what the variables become.
use Rattle.std.specs.Cow.{cow_str_bytes}
use Rattle.just_expand.specs.Contexts.{Answers}
use Rattle.just_expand.proofs.OneCut.{one_cut}
use Rattle.just_expand.proofs.WithoutDollar.{asks_nothing}
use Rattle.just_expand.proofs.home.full_with_context.Goals as goal

pub put_own_home-requires-clause-home : goal.put_own_home-requires-clause-home
put_own_home-requires-clause-home g c = λ rest own calls. c.requires.home (cow_str_bytes c.in-Ok.expanded) rest c.in-Ok.ensures.expanded own calls

pub returns-in-Err-clause-one_cut : goal.returns-in-Err-clause-one_cut
returns-in-Err-clause-one_cut g c = one_cut c.args.input.now

pub returns-in-Err-clause-unasked : goal.returns-in-Err-clause-unasked
returns-in-Err-clause-unasked g c = λ lacks. asks_nothing (Answers g.C.FnMut) c.args.context c.args.input.now lacks

pub returns-in-Ok-put_own_home-clause-one_cut : goal.returns-in-Ok-put_own_home-clause-one_cut
returns-in-Ok-put_own_home-clause-one_cut g c = one_cut c.args.input.now

pub returns-in-Ok-put_own_home-clause-unasked : goal.returns-in-Ok-put_own_home-clause-unasked
returns-in-Ok-put_own_home-clause-unasked g c = λ lacks. asks_nothing (Answers g.C.FnMut) c.args.context c.args.input.now lacks

pub returns-in-Err-put_own_home-clause-one_cut : goal.returns-in-Err-put_own_home-clause-one_cut
returns-in-Err-put_own_home-clause-one_cut g c = one_cut c.args.input.now

pub returns-in-Err-put_own_home-clause-unasked : goal.returns-in-Err-put_own_home-clause-unasked
returns-in-Err-put_own_home-clause-unasked g c = λ lacks. asks_nothing (Answers g.C.FnMut) c.args.context c.args.input.now lacks
