-- Where no failure decides, the signal does, or all went well.
use Rattle.std.proofs.Common.{◌<◌, List, length, subst, sym, ◌∙◌, inl, inr, refl}
use Rattle.just_sched_history.specs.declared.plan_node.PlanNode.{PlanNode}
use Rattle.just_sched_history.proofs.TableLaws.{not_caught}
use Rattle.just_sched_history.proofs.verdict.verdict_by.Goals as goal

pub returns-then-is_complete : goal.returns-then-is_complete
returns-then-is_complete c = λ s same.
    (λ n lt. c.in-None.ensures.none n (subst (λ (xs : List PlanNode). n < length xs) same lt), inr (c.if-is_complete.ensures.is refl s same))

pub returns-else-is_complete : goal.returns-else-is_complete
returns-else-is_complete c = λ s same.
    (λ n lt. c.in-None.ensures.none n (subst (λ (xs : List PlanNode). n < length xs) same lt), sym c.requires.caught ∙ c.in-Some-caught.is, c.if-is_complete.ensures.not_so refl s same)

pub returns-in-None-caught : goal.returns-in-None-caught
returns-in-None-caught c = λ s same.
    (λ n lt. c.in-None.ensures.none n (subst (λ (xs : List PlanNode). n < length xs) same lt), inl (not_caught c.args.history.now (sym c.requires.caught ∙ c.in-None-caught.is)))
