-- No body is open once the desk was audited.
use Rattle.std.proofs.Common.{ap, ◌∙◌}
use Rattle.just_sched_history.specs.State.{is_open}
use Rattle.rows_calls.proofs.run_tests.books.play.Goals as goal

pub close-requires-after_bounds : goal.close-requires-after_bounds
close-requires-after_bounds g c _ _ = λ n lt. ap (λ b. is_open b.history.items n) c.into_book.ensures ∙ c.audit.ensures.closed n
