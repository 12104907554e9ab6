-- The closure over the environment answers as the environment does.
use Rattle.std.proofs.Common.{◌∙◌, ap}
use Rattle.just_expand.specs.Contexts.{EnvironAnswers, environ_reply}
use Rattle.just_path_text.specs.Environ.{value_of}
use Rattle.just_expand.proofs.Transfer.{is_expansion}
use Rattle.just_expand.proofs.OneCut.{one_cut}
use Rattle.just_expand.proofs.WithoutDollar.{asks_nothing}
use Rattle.just_expand.proofs.texts.env.Goals as goal

pub returns-clause-expanded : goal.returns-clause-expanded
returns-clause-expanded c =
    is_expansion _ EnvironAnswers (λ w. w.1.now.pairs) (λ s n r s' k.
    let h = k.1.called.met in
    (k.2 ∙ h.1.0 ∙ ap (λ m. environ_reply (value_of m s.1.now.pairs)) k.1.shows, h.1.1)) _ _ _ c.expand_text.ensures.expanded

pub returns-clause-one_cut : goal.returns-clause-one_cut
returns-clause-one_cut c = one_cut c.args.input.now

pub returns-clause-unasked : goal.returns-clause-unasked
returns-clause-unasked c = λ lacks. asks_nothing EnvironAnswers c.args.environ.now.pairs c.args.input.now lacks
