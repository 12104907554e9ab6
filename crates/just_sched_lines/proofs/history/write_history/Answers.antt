-- The text of a history tells it.
use Rattle.std.proofs.Common.{sym, ◌∙◌}
use Rattle.std.proofs.lemmas.Result.{IfOk-weaker}
use Rattle.just_sched_lines.proofs.Laws.{tells}
use Rattle.just_sched_lines.proofs.history.write_history.Goals as goal

pub returns-clause-tells : goal.returns-clause-tells
returns-clause-tells c = IfOk-weaker c.lines.result _ _ (λ t same other fits others e. tells c.args.history.now other fits others (sym same ∙ e)) c.lines.ensures
