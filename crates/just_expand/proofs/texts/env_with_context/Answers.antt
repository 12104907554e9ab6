-- The closure that hands calls on answers as the context does.
use Rattle.std.proofs.Common.{subst, ◌∙◌}
use Rattle.std.specs.Fn.{CalledAt, TakesAt}
use Rattle.just_expand.specs.Contexts.{Answers}
use Rattle.just_expand.proofs.Transfer.{is_expansion, may_ask}
use Rattle.just_expand.proofs.OneCut.{one_cut}
use Rattle.just_expand.proofs.WithoutDollar.{asks_nothing}
use Rattle.just_expand.proofs.texts.env_with_context.Goals as goal

pub expand_text-requires : goal.expand_text-requires
expand_text-requires g c =
    may_ask _ (Answers g.C.FnMut) (λ w. w.0.now) (λ s n r s' k. (k.0, subst (λ m. CalledAt g.C.FnMut s.0.now m k.0 s'.0.now) k.1.shows k.1.called.met.1, k.2)) (TakesAt g.C.FnMut) _ (λ s n h. λ y e. λ y' e'. h y' (e' ∙ e)) _ _ c.requires

pub returns-clause-expanded : goal.returns-clause-expanded
returns-clause-expanded g c =
    is_expansion _ (Answers g.C.FnMut) (λ w. w.0.now) (λ s n r s' k. (k.0, subst (λ m. CalledAt g.C.FnMut s.0.now m k.0 s'.0.now) k.1.shows k.1.called.met.1, k.2)) _ _ _ c.expand_text.ensures.expanded

pub returns-clause-one_cut : goal.returns-clause-one_cut
returns-clause-one_cut g c = one_cut c.args.input.now

pub returns-clause-unasked : goal.returns-clause-unasked
returns-clause-unasked g c = λ lacks. asks_nothing (Answers g.C.FnMut) c.args.context c.args.input.now lacks
