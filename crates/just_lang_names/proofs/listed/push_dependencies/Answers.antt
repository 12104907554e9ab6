-- One more item.
use Rattle.std.proofs.Common.{◌+◌, ◌∙◌, map, drop}
use Rattle.just_lang_spots.specs.Entries.{entry, entries}
use Rattle.just_lang_spots.proofs.ListLaws.{entries_drop}
use Rattle.just_lang_names.specs.Targets.{dependency_of}
use Rattle.just_lang_names.specs.TargetSpots.{dependencies_in}
use Rattle.just_lang_rules.proofs.Loops.{flat_step}
use Rattle.just_lang_names.proofs.listed.push_dependencies.Goals as goal

pub recipes-preserved : goal.recipes-preserved
recipes-preserved c =
    let xs = c.args.recipes.now in
    let i = c.recipes.one-index in
    let x = c.one-item.result in
    flat_step (dependencies_in c.args.number) (entry x) (entries (drop (i + 1) xs)) (entries (drop i xs)) (map dependency_of c.recipes.list.items) (map dependency_of c.push_of.new.list.items)
    (entries_drop xs i x c.recipes-test.true c.one-item.is) c.in_ok-push_of.ensures ∙ c.recipes.invariant
