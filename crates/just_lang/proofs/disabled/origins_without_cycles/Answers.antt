-- Each node is in the order, once all behind its targets.
use Rattle.std.proofs.Common.{◌<◌, ℕ, List, length, sym, subst}
use Rattle.std.specs.List.{All, Contains}
use Rattle.just_lang_spots.specs.Graph.{IsOrder}
use Rattle.just_lang.proofs.CauseLaws.{order_within, acyclic_whole}
use Rattle.just_lang.proofs.disabled.origins_without_cycles.Goals as goal

pub origins-requires-clause-nodes : goal.origins-requires-clause-nodes
origins-requires-clause-nodes c =
    subst (λ (vs : List ℕ). All (λ v. v < length c.args.edges.now) vs) (sym c.as_slice.ensures.value) (order_within c.args.edges.now c.in_ok-order.order.items c.in_ok-order.ensures.which)

pub origins-requires-clause-order : goal.origins-requires-clause-order
origins-requires-clause-order c = subst (λ (vs : List ℕ). IsOrder c.args.edges.now vs) (sym c.as_slice.ensures.value) c.in_ok-order.ensures.behind

pub origins-requires-clause-whole : goal.origins-requires-clause-whole
origins-requires-clause-whole c = λ v h.
    subst (λ (vs : List ℕ). Contains vs v) (sym c.as_slice.ensures.value) (acyclic_whole c.args.edges.now c.in_ok-order.order.items c.requires.acyclic c.in_ok-order.ensures.which v h)
