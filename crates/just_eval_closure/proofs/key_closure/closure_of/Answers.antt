-- The nodes make the closure and are in order; there is one for each place.
use Rattle.std.proofs.Common.{ap, ◌∙◌, None}
use Rattle.just_eval_closure.specs.Places.{numbers_of}
use Rattle.just_eval_closure.specs.Ran.{places_of}
use Rattle.just_eval_closure.proofs.Nodes.{closure_by, order_by, no_more}
use Rattle.just_eval_closure.proofs.key_closure.closure_of.Goals as goal

pub returns-clause-closure : goal.returns-clause-closure
returns-clause-closure g c =
    let list = places_of c.in_ok-walked.walked.ran in
    closure_by (g.S.Surroundings.around c.args.surroundings.now) c.args.keys.now c.in_ok-copy_of_keys.field-0 list c.in_ok-walked.walked.beside.items c.in_ok-nodes.nodes c.in_ok-invocations.invocations c.in_ok-copy_of_keys.ensures c.in_ok-walked.ensures.visits c.in_ok-walked.ensures.beside c.in_ok-nodes.ensures (c.in_ok-invocations.ensures ∙ ap (λ ks. numbers_of list None ks) c.in_ok-copy_of_keys-2.ensures)

pub returns-clause-ordered : goal.returns-clause-ordered
returns-clause-ordered g c =
    let list = places_of c.in_ok-walked.walked.ran in
    order_by (g.S.Surroundings.around c.args.surroundings.now) c.args.keys.now c.in_ok-copy_of_keys.field-0 list c.in_ok-walked.walked.beside.items c.in_ok-nodes.nodes c.in_ok-invocations.invocations c.in_ok-copy_of_keys.ensures c.in_ok-walked.ensures.visits c.in_ok-walked.ensures.beside c.in_ok-nodes.ensures (c.in_ok-invocations.ensures ∙ ap (λ ks. numbers_of list None ks) c.in_ok-copy_of_keys-2.ensures)

pub returns-clause-short : goal.returns-clause-short
returns-clause-short g c =
    no_more (places_of c.in_ok-walked.walked.ran) c.in_ok-walked.walked.beside.items c.in_ok-nodes.nodes (g.S.Surroundings.around c.args.surroundings.now) c.in_ok-walked.ensures.beside c.in_ok-nodes.ensures c.in_ok-walked.ensures.short
