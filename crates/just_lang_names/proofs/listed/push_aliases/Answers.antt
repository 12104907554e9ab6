-- One more item.
use Rattle.std.proofs.Common.{◌+◌, ◌∙◌, map, drop}
use Rattle.just_lang_spots.specs.Entries.{entry, entries}
use Rattle.just_lang_spots.proofs.ListLaws.{entries_drop}
use Rattle.just_lang_names.specs.Targets.{alias_in}
use Rattle.just_lang_names.specs.TargetSpots.{aliases_in}
use Rattle.just_lang_rules.proofs.Loops.{flat_step}
use Rattle.just_lang_names.proofs.listed.push_aliases.Goals as goal

pub items-preserved : goal.items-preserved
items-preserved c =
    let xs = c.args.items.now in
    let i = c.items.one-index in
    let x = c.one-item.result in
    flat_step (aliases_in c.args.number) (entry x) (entries (drop (i + 1) xs)) (entries (drop i xs)) (map alias_in c.items.list.items) (map alias_in c.push_alias.new.list.items)
    (entries_drop xs i x c.items-test.true c.one-item.is) c.in_ok-push_alias.ensures ∙ c.items.invariant
