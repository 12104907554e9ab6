-- A signal was caught where the account holds one.
use Rattle.std.proofs.Common.{◌∙◌, ap, is_some}
use Rattle.just_sched_book.proofs.Accounts.{signalled_of}
use Rattle.just_sched_history.proofs.TableLaws.{caught_some}
use Rattle.just_sched_book.proofs.book.Book.is_caught.Goals as goal

pub returns : goal.returns
returns g c =
    let s = c.args.self.now in
    c.is_some.ensures ∙ ap (λ o. is_some o) (signalled_of s.account) ∙ caught_some s.history.items
