-- One more place.
use Rattle.std.proofs.Common.{◌+◌, ◌∙◌, drop}
use Rattle.just_lang_spots.specs.Entries.{entry, entries}
use Rattle.just_lang_spots.proofs.ListLaws.{entries_drop}
use Rattle.just_lang.specs.CycleTables.{variable_spot_in}
use Rattle.just_lang_rules.proofs.Loops.{picked_step}
use Rattle.just_lang.proofs.variable.variable_spots.Goals as goal

pub variables-preserved : goal.variables-preserved
variables-preserved c =
    let xs = c.args.variables.now in
    let i = c.variables.variable-index in
    let x = c.variable-item.result in
    picked_step variable_spot_in (entry x) (entries (drop (i + 1) xs)) (entries (drop i xs)) c.variables.spots.items c.push_some.new.list.items c.variable_spot-spot.result
    (entries_drop xs i x c.variables-test.true c.variable-item.is) c.variable_spot-spot.ensures c.in_ok-push_some.ensures ∙ c.variables.invariant
