-- The body that was held goes on.
use Rattle.std.proofs.Common.{ap, ◌∙◌, subst}
use Rattle.just_sched_history.proofs.Grows.{or_caught}
use Rattle.just_sched_history.specs.Moves.{GrowsBy}
use Rattle.just_sched_history.specs.State.{is_running}
use Rattle.just_sched_book.proofs.book.Book.go_on.Goals as goal

pub advance-requires-clause-still : goal.advance-requires-clause-still
advance-requires-clause-still g c _ _ = ap (λ n. is_running c.args.self.now.history.items n) c.into_node.ensures ∙ c.requires.still

pub returns-clause-grown : goal.returns-clause-grown
returns-clause-grown g c =
    let h = c.args.self.now.history.items in
    or_caught h _ c.args.body.node (subst (λ n. GrowsBy h c.advance.new.self.history.items n) c.into_node.ensures c.advance.ensures.grown)
