-- The items are listed and tried one by one, or memory is wanting.
use Rattle.std.proofs.Common.{List, sym, subst}
use Rattle.just_path.specs.Path.{text_of}
use Rattle.just_path.specs.declared.meta.Item.{Item}
use Rattle.just_search.specs.Removals.{Clears, ListsFor, TriesItem}
use Rattle.just_search.proofs.Removing.{on_err, clears_kept, turned_start, turned_more, turned_end, turned_stopped, item_clears}
use Rattle.just_search.proofs.removal.remove_items.Goals as goal

pub returns-in_err-listed-clause-stopped : goal.returns-in_err-listed-clause-stopped
returns-in_err-listed-clause-stopped g c =
    on_err c.from_residual.result (Clears (text_of c.args.folder) (g.H.Host.told c.args.host.now) (g.H.Host.told c.items_in.new.host)) (clears_kept (text_of c.args.folder) (g.H.Host.told c.args.host.now) (g.H.Host.told c.items_in.new.host) c.in_err-listed.ensures.kept)

pub items-init : goal.items-init
items-init g c = record {
  turned = turned_start (TriesItem (text_of c.args.folder)) (text_of c.args.folder) (g.H.Host.told c.args.host.now) c.as_slice-item-items.result.now (g.H.Host.told c.items_in.new.host) (subst (λ (is : List Item). ListsFor (text_of c.args.folder) (g.H.Host.told c.args.host.now) is (g.H.Host.told c.items_in.new.host)) (sym c.as_slice-item-items.ensures.value) c.in_ok-listed.ensures.listed);
}

pub items-preserved : goal.items-preserved
items-preserved g c = record {
  turned = turned_more (TriesItem (text_of c.args.folder)) (text_of c.args.folder) (g.H.Host.told c.args.host.now) c.as_slice-item-items.result.now c.items.item-index c.item-item.result (g.H.Host.told c.items.host) (g.H.Host.told c.remove_item.new.host) c.items-test.true c.item-item.is c.items.invariant.turned c.in_ok-remove_item.ensures.tried;
}

pub returns-in_err-remove_item-clause-stopped : goal.returns-in_err-remove_item-clause-stopped
returns-in_err-remove_item-clause-stopped g c =
    turned_stopped (TriesItem (text_of c.args.folder)) (text_of c.args.folder) (g.H.Host.told c.args.host.now) c.as_slice-item-items.result.now (item_clears (text_of c.args.folder)) c.items.item-index (g.H.Host.told c.items.host) (g.H.Host.told c.remove_item.new.host) c.from_residual-in_err-remove_item.result c.items.invariant.turned c.in_err-remove_item.ensures.stopped

pub returns-clause-tried : goal.returns-clause-tried
returns-clause-tried g c = turned_end (TriesItem (text_of c.args.folder)) (text_of c.args.folder) (g.H.Host.told c.args.host.now) c.as_slice-item-items.result.now c.items.item-index (g.H.Host.told c.items.host) c.items-test.false c.items.invariant.turned
