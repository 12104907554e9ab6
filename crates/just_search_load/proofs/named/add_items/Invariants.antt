-- What was found so far, before what the items to come give; the record gained misses alone.
use Rattle.std.proofs.Common.{◌≡◌}
use Rattle.just_search_load.specs.Named.{ItemNames}
use Rattle.just_env.specs.Answers.{GainsMisses}
use Rattle.just_search_load.proofs.Gathered.{Added}
use Rattle.just_search_load.proofs.named.add_items.Given as goal

abbrev pub invariant-items : goal.invariant-items
invariant-items g l = record {
  added : Added (ItemNames (g.H.Host.told l.fn.host).world l.environ.pairs l.root) l.items l.item-index l.fn.found.items l.found.items;
  gains : GainsMisses (g.H.Host.told l.fn.host).entries (g.H.Host.told l.host).entries;
  world : (g.H.Host.told l.host).world ≡ (g.H.Host.told l.fn.host).world;
}
