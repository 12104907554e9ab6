-- A node whose reason doesn't decide is one more.
use Rattle.std.proofs.Common.{◌≡◌, ◌<◌, length, false, arith, below_more, ap, sym, ◌∙◌}
use Rattle.just_sched_history.specs.State.{reason_of}
use Rattle.just_sched_history.specs.Verdict.{decides}
use Rattle.just_sched_history.proofs.RowLaws.{reason_in_row}
use Rattle.just_sched_history.proofs.verdict.first_decisive.Goals as goal

pub loop-at-preserved : goal.loop-at-preserved
loop-at-preserved c =
    below_more (λ m. decides (reason_of c.args.history.now m) ≡ false) c.loop-at.at c.loop-at.invariant
    (ap decides (sym (reason_in_row c.args.history.now c.args.rows.now c.requires.table c.loop-at.at _ (omega (arith, c.requires.sized, c.len-at-end.ensures)))) ∙ c.in-None.ensures.none)

pub returns-in-Some-clause-found : goal.returns-in-Some-clause-found
returns-in-Some-clause-found c =
    let within : c.loop-at.at < length c.args.rows.now = omega (arith, c.requires.sized, c.len-at-end.ensures) in
    (omega (arith, c.len-at-end.ensures), sym (reason_in_row c.args.history.now c.args.rows.now c.requires.table c.loop-at.at _ within) ∙ c.in-Some.ensures.found.0, c.in-Some.ensures.found.1)
