-- The signal of the account is that of the history.
use Rattle.just_sched_book.proofs.Accounts.{signalled_of}
use Rattle.just_sched_book.proofs.book.Book.caught.Goals as goal

pub returns : goal.returns
returns g c = signalled_of c.args.self.now.account
