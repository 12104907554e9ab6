-- Each node before the next place took a job or is done.
use Rattle.std.proofs.Common.{rules, sym, ◌∙◌, ◌≡◌, ◌||◌, true}
use Rattle.just_sched_history.specs.State.{has_taken, is_done}
use Rattle.just_sched_history.proofs.Below.{below_next}
use Rattle.just_sched_history.proofs.choice.first_left.Goals as goal

pub loop-at-preserved : goal.loop-at-preserved
loop-at-preserved c =
    below_next (λ m. (has_taken c.args.history.now m || is_done c.args.history.now m) ≡ true) c.loop-at.at c.loop-at.invariant
    (sym c.is_taken.ensures ∙ search rules)

pub returns : goal.returns
returns c = λ m lt. c.loop-at.invariant m (search rules)
