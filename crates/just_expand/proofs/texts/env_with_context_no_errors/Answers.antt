-- The closure that hands calls on answers as the context does, and never with an error.
use Rattle.std.proofs.Common.{subst, ◌∙◌, ap}
use Rattle.std.specs.Fn.{CalledAt, TakesAt}
use Rattle.just_expand.specs.Contexts.{AnswersWithoutError, reply_of}
use Rattle.just_expand.proofs.Transfer.{expands_to, may_ask, call_answers}
use Rattle.just_expand.proofs.OneCut.{one_cut}
use Rattle.just_expand.proofs.WithoutDollar.{asks_nothing}
use Rattle.just_expand.proofs.texts.env_with_context_no_errors.Goals as goal

pub env_with_context-expanded-requires : goal.env_with_context-expanded-requires
env_with_context-expanded-requires g c =
    may_ask _ (AnswersWithoutError g.C.FnMut) (λ w. w.0.now) (λ s n r s' k.
    let h = call_answers _ k.0 _ k.1.called.met.1 in
    (h.0, subst (λ m. CalledAt g.C.FnMut s.0.now m h.0 s'.0.now) k.1.shows h.1, k.2 ∙ ap reply_of h.2))
    (TakesAt g.C.FnMut) _ (λ s n h. λ y e. λ y' e'. h y' (e' ∙ e)) _ _ c.requires

pub returns-in-Ok-clause-expanded : goal.returns-in-Ok-clause-expanded
returns-in-Ok-clause-expanded g c =
    expands_to _ (AnswersWithoutError g.C.FnMut) (λ w. w.0.now) (λ s n r s' k.
    let h = call_answers _ k.0 _ k.1.called.met.1 in
    (h.0, subst (λ m. CalledAt g.C.FnMut s.0.now m h.0 s'.0.now) k.1.shows h.1, k.2 ∙ ap reply_of h.2))
    _ _ _ c.in-Ok.ensures.expanded

pub returns-in-Ok-clause-one_cut : goal.returns-in-Ok-clause-one_cut
returns-in-Ok-clause-one_cut g c = one_cut c.args.input.now

pub returns-in-Ok-clause-unasked : goal.returns-in-Ok-clause-unasked
returns-in-Ok-clause-unasked g c = λ lacks. asks_nothing (AnswersWithoutError g.C.FnMut) c.args.context c.args.input.now lacks

pub returns-clause-one_cut : goal.returns-clause-one_cut
returns-clause-one_cut g c = one_cut c.args.input.now

pub returns-clause-unasked : goal.returns-clause-unasked
returns-clause-unasked g c = λ lacks. asks_nothing (AnswersWithoutError g.C.FnMut) c.args.context c.args.input.now lacks
