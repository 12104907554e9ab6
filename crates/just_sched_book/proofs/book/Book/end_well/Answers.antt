-- The entry is saved where there is a cache, and the body ends well.
use Rattle.just_sched_history.proofs.Grows.{grows_two}
use Rattle.just_sched_book.proofs.book.Book.end_well.Goals as goal

pub returns-then-save_where_cached-clause-grown : goal.returns-then-save_where_cached-clause-grown
returns-then-save_where_cached-clause-grown g c = grows_two c.args.self.now.history.items _ _ c.args.node c.save_where_cached.ensures.grown c.end.ensures.grown
