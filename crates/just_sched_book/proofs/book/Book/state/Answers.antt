-- The state that the tables tell is that of the run.
use Rattle.std.proofs.Common.{length, arith, ap, sym, subst}
use Rattle.just_sched_history.specs.declared.plan.Plan.{Plan}
use Rattle.just_sched_history.specs.NodeStates.{IsState}
use Rattle.just_sched_history.specs.Rows.{IsNoted}
use Rattle.just_sched_history.specs.Running.{EachNoIsDone}
use Rattle.just_sched_book.proofs.book.Book.state.Goals as goal

pub state-requires-clause-within : goal.state-requires-clause-within
state-requires-clause-within g c =
    let s = c.args.self.now in
    omega (arith, c.requires, ap (λ p. length p.nodes) s.plan_named)

pub state-requires-clause-noted : goal.state-requires-clause-noted
state-requires-clause-noted g c =
    let s = c.args.self.now in
    subst (λ h. ∥ IsNoted s.plan.nodes s.plan.invocations h s.tables ∥₁) (sym c.as_slice.ensures.value) s.noted

pub returns : goal.returns
returns g c =
    let s = c.args.self.now in
    subst (λ (p : Plan). IsState p.nodes p.invocations s.history.items c.args.node c.state.result) s.plan_named
    (subst (λ h. IsState s.plan.nodes s.plan.invocations h c.args.node c.state.result) c.as_slice.ensures.value c.state.ensures)

pub state-requires-clause-each_no : goal.state-requires-clause-each_no
state-requires-clause-each_no g c = subst EachNoIsDone (sym c.as_slice.ensures.value) c.args.self.now.answered
