-- So many bodies are open as the book counted, and no more than there are jobs.
use Rattle.just_sched_book.proofs.Accounts.{counted_of, bound_of}
use Rattle.just_sched_book.proofs.book.Book.open_bodies.Goals as goal

pub returns-clause-count : goal.returns-clause-count
returns-clause-count g c = counted_of c.args.self.now.account

pub returns-clause-few : goal.returns-clause-few
returns-clause-few g c = bound_of c.args.self.now.account
