-- A source names what its items name; one whose text is refused names nothing, nor does one in whose text neither word is found.
use Rattle.just_search_load.proofs.Naming.{adds_tree, adds_no_tree}
use Rattle.just_search_load.proofs.WithoutWords.{adds_none}
use Rattle.just_search_load.proofs.named.add_source.Goals as goal

pub returns-then-not-contains-2-clause-added : goal.returns-then-not-contains-2-clause-added
returns-then-not-contains-2-clause-added g c =
    adds_none (g.H.Host.told c.args.host.now).world c.args.environ.now.pairs c.args.source.now c.as_str-text.result.now c.args.found.now.items c.as_str-text.ensures c.as_str-text.utf8 c.if-not-contains.ensures.cases c.if-not-contains-2.ensures.cases

pub returns-in-Err-clause-added : goal.returns-in-Err-clause-added
returns-in-Err-clause-added g c =
    adds_no_tree (g.H.Host.told c.args.host.now).world c.args.environ.now.pairs c.args.source.now _ c.args.found.now.items (rw c.in-Err.is at c.in_ok-tree.ensures)

pub returns-clause-added : goal.returns-clause-added
returns-clause-added g c =
    adds_tree (g.H.Host.told c.args.host.now).world c.args.environ.now.pairs c.args.source.now c.in-Ok.items c.as_slice.result.now c.args.found.now.items c.add_items.new.found.items c.add_items.result (rw c.in-Ok.is at c.in_ok-tree.ensures) c.as_slice.ensures c.add_items.ensures.added
