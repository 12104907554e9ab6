-- One more recipe.
use Rattle.std.proofs.Common.{◌+◌, ◌∙◌, drop}
use Rattle.just_lang_spots.specs.Entries.{entry, entries}
use Rattle.just_lang_spots.proofs.ListLaws.{entries_drop}
use Rattle.just_lang.specs.CycleTables.{standing, standing_in}
use Rattle.just_lang_rules.proofs.Loops.{viewed_step}
use Rattle.just_lang.proofs.recipe.add_recipes.Goals as goal

pub items-preserved : goal.items-preserved
items-preserved c =
    let xs = c.args.items.now in
    let i = c.items.one-index in
    let x = c.one-item.result in
    viewed_step standing (standing_in c.args.number) (entry x) (entries (drop (i + 1) xs)) (entries (drop i xs)) c.items.list.items c.push_some.new.list.items c.recipe_of-recipe.result
    (entries_drop xs i x c.items-test.true c.one-item.is) c.recipe_of-recipe.ensures c.in_ok-push_some.ensures ∙ c.items.invariant
