-- Of the nodes before the place that is come to none is to be asked, and each ready one waits.
use Rattle.std.proofs.Common.{◌≡◌, ◌≢◌, ◌+◌, ◌<◌, ◌≤◌, ℕ, ⊎_elim, false, length, set, get_or-set_other, sym, ◌∙◌, subst, arith}
use Rattle.just_sched_history.specs.State.{IsDueNext}
use Rattle.just_sched_history.specs.Tables.{flag}
use Rattle.just_sched_history.specs.Turns.{OnlyWaitBefore}
use Rattle.just_sched_history.proofs.Led.{same_or}
use Rattle.just_sched_history.proofs.Turns.{waits_none, waits_more, waits_same, waits_past, wait_all, none_due}
use Rattle.just_sched_history.proofs.choice.turn_by.Goals as goal
use Rattle.just_sched_history.proofs.choice.turn_by.Goals.{in-Waits, in-Idle}

pub loop-next-init : goal.loop-next-init
loop-next-init c = record {
  size = c.requires.due_sized;
  out = c.requires.due;
  before = waits_none c.args.plan.now.nodes c.args.plan.now.invocations c.args.history.now c.args.left c.requires.left c.requires.took;
}

pub returns-in-ToAsk-clause-turn : goal.returns-in-ToAsk-clause-turn
returns-in-ToAsk-clause-turn c = (
  omega (arith, c.in-Some.ensures.found.1, c.loop-next.invariant.size),
  c.in-ToAsk.ensures,
  (waits_past c.args.plan.now.nodes c.args.plan.now.invocations c.args.history.now c.loop-next.at c.in-Some.next c.loop-next.waits c.in-Some.ensures.found.0 c.loop-next.invariant.before
      (λ m le lt. c.loop-next.invariant.out m (c.in-Some.ensures.least m le lt))).each,
)

pub returns-in-Free-clause-turn : goal.returns-in-Free-clause-turn
returns-in-Free-clause-turn c = (
  omega (arith, c.in-Some.ensures.found.1, c.loop-next.invariant.size),
  c.in-Free.ensures,
  (waits_past c.args.plan.now.nodes c.args.plan.now.invocations c.args.history.now c.loop-next.at c.in-Some.next c.loop-next.waits c.in-Some.ensures.found.0 c.loop-next.invariant.before
      (λ m le lt. c.loop-next.invariant.out m (c.in-Some.ensures.least m le lt))).each,
)

pub loop-next-preserved : goal.loop-next-preserved
loop-next-preserved c =
    let plan = c.args.plan.now in
    let h = c.args.history.now in
    let n = c.in-Some.next in
    let here = waits_past c.args.plan.now.nodes c.args.plan.now.invocations c.args.history.now c.loop-next.at c.in-Some.next c.loop-next.waits c.in-Some.ensures.found.0 c.loop-next.invariant.before
    (λ m le lt. c.loop-next.invariant.out m (c.in-Some.ensures.least m le lt)) in
    elim c.match-stand_of.branch [
      | in-Waits w ↦ record {
        size = subst (λ d. d.size ≡ length plan.nodes) (sym w.due-is) c.loop-next.invariant.size;
        out = subst (λ d. (m : ℕ) → flag d.flags.items m ≡ false → IsDueNext plan.nodes plan.invocations h m → ⊥) (sym w.due-is) c.loop-next.invariant.out;
        before = subst (λ b. OnlyWaitBefore plan.nodes plan.invocations h (n + 1) b) (sym w.waits-is) (waits_more plan.nodes plan.invocations h n c.loop-next.waits here w.in-Waits.ensures);
      }
      | in-Idle w ↦ record {
        size = subst (λ d. d.size ≡ length plan.nodes) (sym w.due-is) (w.remove.ensures.size ∙ c.loop-next.invariant.size);
        out = subst (λ d. (m : ℕ) → flag d.flags.items m ≡ false → IsDueNext plan.nodes plan.invocations h m → ⊥) (sym w.due-is)
            (λ m down due.
            ⊎_elim (λ (same : m ≡ n). w.in-Idle.ensures (subst (λ i. IsDueNext plan.nodes plan.invocations h i) same due))
            (λ (other : m ≡ n → ⊥). c.loop-next.invariant.out m (sym (get_or-set_other c.loop-next.due.flags.items n m false false other) ∙ subst (λ xs. flag xs m ≡ false) w.remove.ensures.flags down) due)
            (same_or m n));
        before = subst (λ b. OnlyWaitBefore plan.nodes plan.invocations h (n + 1) b) (sym w.waits-is) (waits_same plan.nodes plan.invocations h n c.loop-next.waits here w.in-Idle.ensures);
      }
    ]

pub returns-then-waits-clause-turn : goal.returns-then-waits-clause-turn
returns-then-waits-clause-turn c =
    let plan = c.args.plan.now in
    let all = waits_past c.args.plan.now.nodes c.args.plan.now.invocations c.args.history.now c.loop-next.at (c.loop-next.at + length c.args.plan.now.nodes) c.loop-next.waits (omega arith) c.loop-next.invariant.before
    (λ m le lt. c.loop-next.invariant.out m (c.in_default.ensures.none m le)) in
    wait_all plan.nodes plan.invocations c.args.history.now plan.well (c.loop-next.at + length plan.nodes) (omega arith) (subst (OnlyWaitBefore plan.nodes plan.invocations c.args.history.now (c.loop-next.at + length plan.nodes)) c.if-waits.true all)

pub returns-else-waits-clause-turn : goal.returns-else-waits-clause-turn
returns-else-waits-clause-turn c =
    let plan = c.args.plan.now in
    let all = waits_past c.args.plan.now.nodes c.args.plan.now.invocations c.args.history.now c.loop-next.at (c.loop-next.at + length c.args.plan.now.nodes) c.loop-next.waits (omega arith) c.loop-next.invariant.before
    (λ m le lt. c.loop-next.invariant.out m (c.in_default.ensures.none m le)) in
    none_due plan.nodes plan.invocations c.args.history.now (c.loop-next.at + length plan.nodes) (omega arith) (subst (OnlyWaitBefore plan.nodes plan.invocations c.args.history.now (c.loop-next.at + length plan.nodes)) c.if-waits.false all)
