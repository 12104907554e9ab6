-- One node more has its priors led, where it is wanted; what was led stays so.
use Rattle.std.proofs.Common.{arith, ◌∙◌}
use Rattle.just_sched_history.proofs.Led.{raised_on}
use Rattle.just_sched_history.proofs.PriorsLed.{wanted_on, led_more}
use Rattle.just_sched_history.proofs.CoveredLaws.{covered_one_more}
use Rattle.just_sched_history.proofs.descent.spread.Goals as goal

pub loop-node-preserved : goal.loop-node-preserved
loop-node-preserved c =
    let plan = c.args.plan.now in
    let raised = c.lead_priors.ensures.raised in
    record {
      sized = raised.sized ∙ c.loop-node.invariant.sized;
      places = omega (arith, c.lead_priors.auto.places, c.loop-node.invariant.places);
      listed = c.lead_priors.ensures.listed;
      before = c.lead_priors.ensures.before;
      led = led_more plan.nodes c.args.finished.now c.args.confirmed.now c.loop-node.wanted c.lead_priors.new.wanted c.loop-node.pending.items c.lead_priors.new.pending.items raised c.args.nodes.now c.loop-node.node-index c.loop-node.invariant.led c.lead_priors.ensures.led;
      raised = raised_on c.args.wanted.now c.loop-node.wanted c.lead_priors.new.wanted c.args.pending.now.items c.loop-node.pending.items c.lead_priors.new.pending.items c.loop-node.invariant.raised raised;
      wanted = wanted_on plan.nodes plan.invocations c.args.finished.now c.args.confirmed.now c.args.wanted.now c.loop-node.wanted c.lead_priors.new.wanted c.loop-node.invariant.wanted c.lead_priors.ensures.wanted;
      due = c.lead_priors.ensures.due ∙ c.loop-node.invariant.due;
      kept = λ k up. c.lead_priors.ensures.kept k (c.loop-node.invariant.kept k up);
      covered = covered_one_more plan.nodes c.loop-node.due.flags.items c.lead_priors.new.due.flags.items c.args.finished.now c.args.confirmed.now c.lead_priors.ensures.kept c.loop-node.wanted c.lead_priors.new.wanted c.loop-node.pending.items c.lead_priors.new.pending.items raised c.args.nodes.now c.loop-node.node-index c.loop-node.invariant.covered c.lead_priors.ensures.covered;
      capacity = c.lead_priors.ensures.capacity ∙ c.loop-node.invariant.capacity;
    }
