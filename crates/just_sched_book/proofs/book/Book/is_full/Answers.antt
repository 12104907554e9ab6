-- Each job is taken where the book counted so many bodies.
use Rattle.std.proofs.Common.{Some, ap, sym, ◌∙◌}
use Rattle.std.specs.Option.{option_map}
use Rattle.std.specs.Int.NonZero.{non_zero_u64_get}
use Rattle.just_sched_book.proofs.Accounts.{full_at}
use Rattle.just_sched_book.proofs.book.Book.is_full.Goals as goal

pub returns-in-Some : goal.returns-in-Some
returns-in-Some g c =
    let s = c.args.self.now in
    full_at s.account c.get.result (sym s.jobs_named ∙ ap (λ o. option_map non_zero_u64_get o) c.in-Some.is ∙ ap (λ n. Some n) (sym c.get.ensures.value))
