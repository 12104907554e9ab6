-- The history is kept.
use Rattle.std.proofs.Common.{sym, subst}
use Rattle.just_sched_history.specs.Start.{IsKept}
use Rattle.just_sched_book.proofs.Accounts.{kept_of}
use Rattle.just_sched_history.proofs.CacheRules.{kept_apart}
use Rattle.just_sched_book.proofs.book.Book.history.Goals as goal

pub returns-clause-kept : goal.returns-clause-kept
returns-clause-kept g c =
    let s = c.args.self.now in
    subst (λ h. ∥ IsKept g.P.Naming.start h (g.H.Host.told s.host) ∥₁) (sym c.as_slice.ensures.value) (kept_of s.account)

pub returns-clause-apart : goal.returns-clause-apart
returns-clause-apart g c = kept_apart g.P.Naming.start _ _ (returns-clause-kept g c)
