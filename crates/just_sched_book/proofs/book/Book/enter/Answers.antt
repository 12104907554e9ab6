-- The entry is looked at where there is a cache, and the body is skipped or begun.
use Rattle.just_sched_history.proofs.Grows.{grows_two}
use Rattle.just_sched_book.proofs.book.Book.enter.Goals as goal

pub returns-then-saw_full-clause-grown : goal.returns-then-saw_full-clause-grown
returns-then-saw_full-clause-grown g c = grows_two c.args.self.now.history.items _ _ c.args.node c.look_where_cached.ensures.grown c.skip.ensures.grown

pub returns-clause-grown : goal.returns-clause-grown
returns-clause-grown g c = grows_two c.args.self.now.history.items _ _ c.args.node c.look_where_cached.ensures.grown c.begin.ensures.grown
