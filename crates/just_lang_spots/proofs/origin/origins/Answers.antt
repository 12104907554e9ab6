-- One more node has its origin; where each node stands in the order, all have theirs.
use Rattle.std.proofs.Common.{arith, ◌≡◌, ◌+◌, ◌<◌, ◌∙◌, sym, ap, refl, subst, set, length, get_or}
use Rattle.std.proofs.lemmas.List.{length-set}
use Rattle.just_lang_spots.specs.Origins.{origin_at}
use Rattle.just_lang_spots.proofs.Settled.{AreSettled, settle_one, settled_all}
use Rattle.just_lang_spots.proofs.origin.origins.Goals as goal

pub loop-node-preserved : goal.loop-node-preserved
loop-node-preserved c =
    let edges = c.args.edges.now in
    let own = c.args.own.now in
    let order = c.args.order.now in
    let origins = c.loop-node.origins.items in
    let i = c.loop-node.node-index in
    let v = get_or order i 0 in
    let short : c.loop-node.node-index < length c.args.order.now = omega arith in
    let node = c.requires.nodes i 0 short in
    let size = c.loop-node.invariant.size in
    let is : c.origin_of-origin.result ≡ origin_at edges own origins v = c.origin_of-origin.ensures ∙ ap (λ os. origin_at edges own os v) c.as_slice.ensures.value in
    record {
      size = length-set origins v c.origin_of-origin.result ∙ size;
      settled = subst (λ o. AreSettled edges own (set origins v o) order (i + 1)) (sym is) (settle_one edges own origins order i v c.requires.order short refl (subst (λ n. v < n) (sym size) node) c.loop-node.invariant.settled);
    }

pub returns : goal.returns
returns c =
    let i : c.loop-node.node-index ≡ length c.args.order.now = omega arith in
    settled_all c.args.edges.now c.args.own.now c.loop-node.origins.items c.args.order.now c.loop-node.invariant.size c.requires.whole (subst (λ n. AreSettled c.args.edges.now c.args.own.now c.loop-node.origins.items c.args.order.now n) i c.loop-node.invariant.settled)
