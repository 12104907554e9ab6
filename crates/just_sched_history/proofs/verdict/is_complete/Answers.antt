-- A closed history is complete where each node is finished.
use Rattle.std.proofs.Common.{◌<◌, List, length, arith, subst, sym}
use Rattle.just_sched_history.specs.declared.plan_node.PlanNode.{PlanNode}
use Rattle.just_sched_history.specs.State.{IsFinished}
use Rattle.just_sched_history.proofs.verdict.is_complete.Goals as goal

pub returns-clause-is : goal.returns-clause-is
returns-clause-is c = λ e s same. record {
  closed = λ n lt. c.requires.closed n (subst (λ (xs : List PlanNode). n < length xs) same lt);
  all_finished = λ n lt.
      let inside = subst (λ (xs : List PlanNode). n < length xs) same lt in
      let up : n < length c.args.finished.now = omega (arith, inside, c.requires.sized) in
      subst (λ (xs : List PlanNode). IsFinished xs c.args.history.now n) (sym same) ((c.requires.finished n up).0 (c.all_up.ensures.yes e n up));
}

pub returns-clause-not_so : goal.returns-clause-not_so
returns-clause-not_so c = λ e s same complete.
    let (k, lt, down) = c.all_up.ensures.not_all e in
    let inside : k < length c.args.plan.now.nodes = omega (arith, lt, c.requires.sized) in
    (c.requires.finished k lt).1 down (subst (λ (xs : List PlanNode). IsFinished xs c.args.history.now k) same (complete.all_finished k (subst (λ (xs : List PlanNode). k < length xs) (sym same) inside)))
