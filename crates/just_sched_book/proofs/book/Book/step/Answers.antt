-- The step of a body: its next command is started, or it is done and gives its job back.
use Rattle.std.proofs.Common.{ap}
use Rattle.just_sched_history.proofs.Grows.{grows_on}
use Rattle.just_sched_book.proofs.book.Book.step.Goals as goal
use Rattle.just_sched_book.proofs.book.Book.step.Goals.{in-Start+then-is_caught, in-Start+else-is_caught+in_default, in-Well, in-Failed}

pub returns-clause-grown : goal.returns-clause-grown
returns-clause-grown g c =
    elim c.match-next_step.branch [
      | in-Start+then-is_caught w ↦ grows_on c.args.self.now.history.items _ _ _ c.args.node w.end.ensures.grown (ap (λ b. b.history.items) w.self-is) c.give.ensures.grown
      | in-Start+else-is_caught+in_default w ↦ grows_on c.args.self.now.history.items _ _ _ c.args.node w.start.ensures.grown (ap (λ b. b.history.items) w.self-is) c.give.ensures.grown
      | in-Well w ↦ grows_on c.args.self.now.history.items _ _ _ c.args.node w.end_well.ensures.grown (ap (λ b. b.history.items) w.self-is) c.give.ensures.grown
      | in-Failed w ↦ grows_on c.args.self.now.history.items _ _ _ c.args.node w.end-in-Failed.ensures.grown (ap (λ b. b.history.items) w.self-is) c.give.ensures.grown
    ]
