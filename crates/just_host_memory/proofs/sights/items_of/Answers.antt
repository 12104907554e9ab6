-- A thing that is passed is none of the folder's items, and another becomes one.
use Rattle.std.proofs.Common.{◌≡◌, ◌+◌, ◌-◌, ◌<◌, length, drop, map, sym, ap₂, subst, ◌∙◌, arith}
use Rattle.std.specs.Ordering.{nat_cmp}
use Rattle.std.specs.Cmp.Lexicographic.{slice_cmp}
use Rattle.std.specs.FinMap.Entries.{put}
use Rattle.just_path.specs.View.{named}
use Rattle.just_host_files.specs.Items.{AreItemsBehind}
use Rattle.just_host_memory.specs.Files.{by_text}
use Rattle.just_host_files.proofs.Places.{order_put}
use Rattle.just_host_memory.proofs.Things.{item_at, within}
use Rattle.just_host_memory.proofs.Behind.{thing_passed, thing_put}
use Rattle.just_host_memory.proofs.sights.items_of.Goals as goal

pub loop-i-preserved-in-Continue-branch-2 : goal.loop-i-preserved-in-Continue-branch-2
loop-i-preserved-in-Continue-branch-2 c =
    let inside : c.loop-i.i - 1 < length c.args.things.now = omega (arith, c.loop-i-test.true, c.loop-i.invariant.inside) in
    let further : c.loop-i.i ≡ c.loop-i.i - 1 + 1 = omega (arith, c.loop-i-test.true) in
    record {
      inside = omega (arith, c.loop-i.invariant.inside);
      order = order_put c.loop-i.items.items c.put_item.new.items.items c.in_ok-name.name c.meta_of-kind.result.kind c.loop-i.invariant.order c.in_ok-put_item.ensures;
      items = thing_put c.args.front.now (map by_text c.args.things.now) (c.loop-i.i - 1) (by_text c.index-things-i.result) c.in-Some.name.now c.loop-i.items.items c.put_item.new.items.items (within c.args.things.now (c.loop-i.i - 1) inside) (item_at c.args.things.now (c.loop-i.i - 1) c.index-things-i.result inside c.index-things-i.is)
          c.in-Some.ensures.0 (sym c.as_str.ensures ∙ c.in-Some.ensures.1)
          (c.in_ok-put_item.ensures ∙ ap₂ (λ n m. put (slice_cmp nat_cmp) n m.kind (named c.loop-i.items.items)) c.in_ok-name.ensures c.meta_of-kind.ensures)
          (subst (λ k. AreItemsBehind c.args.front.now (drop k (map by_text c.args.things.now)) c.loop-i.items.items) further c.loop-i.invariant.items);
    }

pub loop-i-preserved : goal.loop-i-preserved
loop-i-preserved c =
    let inside : c.loop-i.i - 1 < length c.args.things.now = omega (arith, c.loop-i-test.true, c.loop-i.invariant.inside) in
    let further : c.loop-i.i ≡ c.loop-i.i - 1 + 1 = omega (arith, c.loop-i-test.true) in
    record {
      inside = omega (arith, c.loop-i.invariant.inside);
      order = c.loop-i.invariant.order;
      items = thing_passed c.args.front.now (map by_text c.args.things.now) (c.loop-i.i - 1) (by_text c.index-things-i.result) c.loop-i.items.items (within c.args.things.now (c.loop-i.i - 1) inside) (item_at c.args.things.now (c.loop-i.i - 1) c.index-things-i.result inside c.index-things-i.is)
          (λ name isname at. c.in_default.ensures name isname (c.as_str.ensures ∙ at))
          (subst (λ k. AreItemsBehind c.args.front.now (drop k (map by_text c.args.things.now)) c.loop-i.items.items) further c.loop-i.invariant.items);
    }

pub returns-clause-items : goal.returns-clause-items
returns-clause-items c =
    let none : c.loop-i.i ≡ 0 = omega (arith, c.loop-i-test.false) in
    subst (λ k. AreItemsBehind c.args.front.now (drop k (map by_text c.args.things.now)) c.loop-i.items.items) none c.loop-i.invariant.items
