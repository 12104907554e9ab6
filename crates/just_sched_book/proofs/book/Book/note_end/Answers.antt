-- The end is noted of the node that runs with the child, or of the first that runs, and its body rests then.
use Rattle.std.proofs.Common.{ap, sym, ◌∙◌, subst}
use Rattle.just_sched_history.specs.Running.{IsNotedFor}
use Rattle.just_sched_history.specs.State.{is_running}
use Rattle.just_sched_book.proofs.Runners.{own_or_stranger}
use Rattle.just_sched_book.proofs.book.Book.note_end.Goals as goal

pub settle-requires-clause-own : goal.settle-requires-clause-own
settle-requires-clause-own g c _ _ =
    own_or_stranger c.args.self.now.history.items c.ending-node.result.1 c.take_apart-told.result.1 (g.H.Host.done_number c.take_apart-told.result.2) (c.take_apart-told.ensures.done ∙ sym c.take_apart-told.ensures.child) c.ending-node.ensures.own

pub returns-clause-node : goal.returns-clause-node
returns-clause-node g c =
    let h = c.args.self.now.history.items in
    subst (λ n. IsNotedFor h c.args.body.child n) (sym c.new.ensures)
    (subst (λ k. IsNotedFor h k c.ending-node.result.0) c.take_apart-told.ensures.child c.ending-node.ensures.noted)

pub returns-clause-still : goal.returns-clause-still
returns-clause-still g c = ap (λ n. is_running c.settle.new.self.history.items n) c.new.ensures ∙ c.settle.ensures.still
