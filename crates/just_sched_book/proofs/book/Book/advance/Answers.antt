-- A body goes on: given back where it is over, else begun where it is fresh, and then stepped.
use Rattle.std.proofs.Common.{ap, sym, ◌∙◌}
use Rattle.just_sched_history.specs.Legal.{in_body}
use Rattle.just_sched_history.proofs.Grows.{grows_none, grows_two, grows_on}
use Rattle.just_sched_history.proofs.Due.{is_inside}
use Rattle.just_sched_book.proofs.book.Book.advance.Goals.{else-not-is_begun-via-then-not-is_begun+else-not-enter, else-not-is_begun-via-else-not-is_begun}
use Rattle.just_sched_book.proofs.book.Book.advance.Goals as goal

pub enter-requires-clause-inside : goal.enter-requires-clause-inside
enter-requires-clause-inside g c _ _ =
    let s = c.args.self.now in
    is_inside s.history.items c.args.node c.requires.opened (sym c.if-is_over.ensures)

pub returns-then-not-enter-clause-grown : goal.returns-then-not-enter-clause-grown
returns-then-not-enter-clause-grown g c = grows_two c.args.self.now.history.items _ _ c.args.node c.enter.ensures.grown c.give-then-not-enter.ensures.grown

pub step-requires-clause-inside : goal.step-requires-clause-inside
step-requires-clause-inside g c _ _ =
    let s = c.args.self.now in
    elim c.else-not-is_begun.branch [
      | else-not-is_begun-via-then-not-is_begun+else-not-enter w ↦ ap (λ b. in_body b.history.items c.args.node) w.self-is ∙ w.if-not-enter.ensures.did.0
      | else-not-is_begun-via-else-not-is_begun w ↦ ap (λ b. in_body b.history.items c.args.node) w.self-is ∙ is_inside s.history.items c.args.node c.requires.opened (sym c.if-is_over.ensures)
    ]

pub returns-clause-grown : goal.returns-clause-grown
returns-clause-grown g c =
    let h = c.args.self.now.history.items in
    elim c.else-not-is_begun.branch [
      | else-not-is_begun-via-then-not-is_begun+else-not-enter w ↦ grows_on h _ _ _ c.args.node w.enter.ensures.grown (ap (λ b. b.history.items) w.self-is) c.step.ensures.grown
      | else-not-is_begun-via-else-not-is_begun w ↦ grows_on h h _ _ c.args.node (grows_none h c.args.node) (ap (λ b. b.history.items) w.self-is) c.step.ensures.grown
    ]
