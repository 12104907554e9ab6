-- The first six events are those of the body.
use Rattle.std.proofs.Common.{◌-◌, length, take, drop, sym, ◌∙◌}
use Rattle.just_cli_vectors.proofs.Events.{body_is, six_here}
use Rattle.just_cli_vectors.proofs.bodies.behind_body.Goals as goal

pub returns-then-are_of_body : goal.returns-then-are_of_body
returns-then-are_of_body c =
    let h = c.args.history.now in
    six_here h c.took-item.result c.begun-item.result c.started-item.result c.ended-item.result c.done-item.result c.gave-item.result c.in-len6-up.len_at_least
    c.took-item.is c.begun-item.is c.started-item.is c.ended-item.is c.done-item.is c.gave-item.is
    ∙ body_is c.args.number c.took-item.result c.begun-item.result c.started-item.result c.ended-item.result c.done-item.result c.gave-item.result (take (length h - 6) (drop 6 h))
    (sym c.if-are_of_body.ensures)
