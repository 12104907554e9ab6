-- One item more; or one that is refused; or all of them.
use Rattle.std.proofs.Common.{refl, ◌∙◌, subst}
use Rattle.std.specs.Prelude.{Ok, Err}
use Rattle.just_env.proofs.Laws.{gains_none, misses_then}
use Rattle.just_search_load.specs.Gathers.{Adds}
use Rattle.just_search_load.specs.Named.{ItemNames}
use Rattle.just_search_load.proofs.Gathered.{added_none, added_one, added_refused, added_all}
use Rattle.just_search_load.proofs.named.add_items.Goals as goal

pub returns-in-Err-clause-added : goal.returns-in-Err-clause-added
returns-in-Err-clause-added g c =
    let names = ItemNames (g.H.Host.told c.args.host.now).world c.args.environ.now.pairs c.args.root.now in
    added_refused names c.args.items.now c.items.item-index c.item-item.result c.args.found.now.items c.items.found.items c.add_item.new.found.items c.in-Err.error c.items-test.true c.item-item.is c.items.invariant.added
    (subst (λ t. Adds (ItemNames t c.args.environ.now.pairs c.args.root.now c.item-item.result) c.items.found.items c.add_item.new.found.items (Err c.in-Err.error)) c.items.invariant.world c.in-Err.ensures.added)

pub items-preserved : goal.items-preserved
items-preserved g c =
    let names = ItemNames (g.H.Host.told c.args.host.now).world c.args.environ.now.pairs c.args.root.now in
    record {
      added = added_one names c.args.items.now c.items.item-index c.item-item.result c.args.found.now.items c.items.found.items c.add_item.new.found.items c.items-test.true c.item-item.is c.items.invariant.added
          (subst (λ t. Adds (ItemNames t c.args.environ.now.pairs c.args.root.now c.item-item.result) c.items.found.items c.add_item.new.found.items (Ok tt)) c.items.invariant.world c.in-Ok.ensures.added);
      gains = misses_then _ _ _ c.items.invariant.gains c.in-Ok.ensures.gains;
      world = c.add_item.ensures.world ∙ c.items.invariant.world;
    }

pub returns-clause-added : goal.returns-clause-added
returns-clause-added g c =
    let names = ItemNames (g.H.Host.told c.args.host.now).world c.args.environ.now.pairs c.args.root.now in
    added_all names c.args.items.now c.items.item-index c.args.found.now.items c.items.found.items c.items-test.false c.items.invariant.added

pub items-init : goal.items-init
items-init g c = record {
  added = added_none (ItemNames (g.H.Host.told c.args.host.now).world c.args.environ.now.pairs c.args.root.now) c.args.items.now c.args.found.now.items;
  gains = gains_none (g.H.Host.told c.args.host.now).entries;
  world = refl;
}

pub returns-in-Err-clause-gains : goal.returns-in-Err-clause-gains
returns-in-Err-clause-gains g c =
    let h = c.in-Err.ensures.gains in
    (h.0, misses_then _ _ _ c.items.invariant.gains h.1, h.2)

pub returns-in-Err-clause-world : goal.returns-in-Err-clause-world
returns-in-Err-clause-world g c = c.add_item.ensures.world ∙ c.items.invariant.world

pub returns-clause-gains : goal.returns-clause-gains
returns-clause-gains g c = c.items.invariant.gains

pub returns-clause-world : goal.returns-clause-world
returns-clause-world g c = c.items.invariant.world
