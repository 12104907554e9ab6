-- The node that is taken from the list has its priors led, by which the places, the list and the flags stay right.
use Rattle.std.proofs.Common.{ℕ, ◌<◌, inl, inr, ⊎_elim, Bool, List, length, length-append, ◌∷◌, [], arith, subst, sym, ap, ◌∙◌}
use Rattle.just_sched_history.specs.Nodes.{priors_at}
use Rattle.std.proofs.lemmas.List.Elements.{Contains-append_cases}
use Rattle.std.specs.Prelude.{Contains}
use Rattle.just_sched_history.specs.Covered.{IsCovered}
use Rattle.just_sched_history.specs.Led.{IsLed}
use Rattle.just_sched_history.proofs.Led.{popped_in}
use Rattle.just_sched_history.proofs.PriorsLed.{led_kept, wanted_on}
use Rattle.just_sched_history.proofs.CoveredLaws.{covered_popped}
use Rattle.just_sched_history.proofs.WantedLaws.{parallel_read}
use Rattle.just_sched_history.proofs.descent.descend.Goals as goal
use Rattle.just_sched_history.proofs.descent.descend.Goals.{After-as_slice}

-- the node that is taken is one of the plan
taken_in : (c : After-as_slice) → c.in-Some.next < length c.args.plan.now.nodes
taken_in c = popped_in c.loop-next.wanted c.loop-next.pending.items c.pop.new.self.items c.in-Some.next (length c.args.plan.now.nodes) c.loop-next.invariant.listed c.in-Some.ensures.items c.loop-next.invariant.sized

pub bounds-as_slice-at : goal.bounds-as_slice-at
bounds-as_slice-at c =
    omega (arith, popped_in c.loop-next.wanted c.loop-next.pending.items c.pop.new.self.items c.in-Some.next (length c.args.plan.now.nodes) c.loop-next.invariant.listed c.in-Some.ensures.items c.loop-next.invariant.sized, ap (λ xs. length xs) c.as_slice.ensures)

pub bounds-as_slice-at-in-Some : goal.bounds-as_slice-at-in-Some
bounds-as_slice-at-in-Some c =
    omega (arith, popped_in c.loop-next.wanted c.loop-next.pending.items c.pop.new.self.items c.in-Some.next (length c.args.plan.now.nodes) c.loop-next.invariant.listed c.in-Some.ensures.items c.loop-next.invariant.sized, ap (λ xs. length xs) c.as_slice.ensures)

pub lead_priors-requires-clause-within : goal.lead_priors-requires-clause-within
lead_priors-requires-clause-within c = popped_in c.loop-next.wanted c.loop-next.pending.items c.pop.new.self.items c.in-Some.next (length c.args.plan.now.nodes) c.loop-next.invariant.listed c.in-Some.ensures.items c.loop-next.invariant.sized

pub lead_priors-requires-clause-together : goal.lead_priors-requires-clause-together
lead_priors-requires-clause-together c = λ e.
    sym (parallel_read c.args.plan.now.nodes c.as_slice.result.now c.in-Some.next c.index-as_slice-at.result c.as_slice.ensures (taken_in (goal.at.lead_priors-requires-clause-together c).After-as_slice)) ∙ e

pub loop-next-preserved : goal.loop-next-preserved
loop-next-preserved c =
    let plan = c.args.plan.now in
    let m = c.in-Some.next in
    let f = c.args.finished.now in
    let said = c.args.confirmed.now in
    let old = c.loop-next.wanted in
    let new = c.lead_priors.new.wanted in
    let rest = c.pop.new.self.items in
    let after = c.lead_priors.new.pending.items in
    let raised = c.lead_priors.ensures.raised in
    let together = parallel_read plan.nodes c.as_slice.result.now m c.index-as_slice-at.result c.as_slice.ensures (taken_in (goal.at.loop-next-preserved c).After-as_slice) in
    record {
      sized = raised.sized ∙ c.loop-next.invariant.sized;
      places = omega (arith, c.lead_priors.auto.places, c.loop-next.invariant.places);
      listed = c.lead_priors.ensures.listed;
      before = c.lead_priors.ensures.before;
      room = omega (arith, raised.counted, c.loop-next.invariant.room, c.lead_priors.ensures.capacity, c.in-Some.ensures.capacity, ap (λ (xs : List ℕ). length xs) c.in-Some.ensures.items, length-append rest (m ∷ []));
      led = led_kept plan.nodes f said old new rest after m raised c.loop-next.pending.items c.in-Some.ensures.items c.loop-next.invariant.led
          (λ up sure. subst (λ (b : Bool). IsLed f new b (priors_at plan.nodes m)) together (c.lead_priors.ensures.led up sure));
      keeps = λ k up. raised.keeps k (c.loop-next.invariant.keeps k up);
      wanted = wanted_on plan.nodes plan.invocations f said c.args.wanted.now old new c.loop-next.invariant.wanted c.lead_priors.ensures.wanted;
      due = c.lead_priors.ensures.due ∙ c.loop-next.invariant.due;
      covered = λ gone began. covered_popped plan.nodes c.loop-next.due.flags.items c.lead_priors.new.due.flags.items f said c.lead_priors.ensures.kept gone old new rest after m raised c.loop-next.pending.items c.in-Some.ensures.items c.lead_priors.ensures.covered (c.loop-next.invariant.covered gone began);
      capacity = c.lead_priors.ensures.capacity ∙ c.in-Some.ensures.capacity ∙ c.loop-next.invariant.capacity;
    }

pub returns-clause-covered : goal.returns-clause-covered
returns-clause-covered c = λ gone began n up left.
    ⊎_elim (λ (listed : Contains c.loop-next.pending.items n).
    ⊎_elim (λ (rest : Contains c.pop.new.self.items n). inl rest) (λ (never : Contains [] n). absurd (omega (arith, never.1)))
    (Contains-append_cases c.pop.new.self.items [] n (subst (λ (xs : List ℕ). Contains xs n) c.in_default.ensures.items listed)))
    (λ (covered : IsCovered c.args.plan.now.nodes c.loop-next.due.flags.items c.args.finished.now c.args.confirmed.now n). inr covered)
    (c.loop-next.invariant.covered gone began n up left)
