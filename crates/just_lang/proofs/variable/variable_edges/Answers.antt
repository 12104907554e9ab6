-- One more assignment has its edges.
use Rattle.std.proofs.Common.{◌+◌, take}
use Rattle.just_lang_spots.specs.Entries.{entry, entries}
use Rattle.just_lang_spots.proofs.ListLaws.{entries_take}
use Rattle.just_lang.specs.CycleTables.{uses_in}
use Rattle.just_lang.proofs.Loops.{mapped_step}
use Rattle.just_lang.proofs.variable.variable_edges.Goals as goal

pub variables-preserved : goal.variables-preserved
variables-preserved c =
    let xs = c.args.variables.now in
    let i = c.variables.variable-index in
    let x = c.variable-item.result in
    mapped_step (uses_in c.args.index.now) (entry x) (entries (take i xs)) (entries (take (i + 1) xs)) c.variables.edges.items c.push.new.self.items c.in_ok-uses.uses
    (entries_take xs i x c.variables-test.true c.variable-item.is) c.in_ok-uses.ensures c.variables.invariant c.in_ok-push.ensures.items
