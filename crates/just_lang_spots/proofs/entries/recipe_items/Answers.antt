-- One more item is a recipe or isn't.
use Rattle.std.specs.Prelude.{filter}
use Rattle.just_lang_spots.specs.Entries.{entries}
use Rattle.just_lang_spots.specs.Items.{is_recipe_here}
use Rattle.just_lang_spots.proofs.ListLaws.{kept_where}
use Rattle.just_lang_spots.proofs.entries.recipe_items.Goals as goal

pub items-preserved : goal.items-preserved
items-preserved c =
    kept_where is_recipe_here c.args.items.now c.items.one-index c.one-item.result c.is_recipe_here-is_recipe.result c.items.kept.items c.keep_where.new.kept.items (filter is_recipe_here (entries c.args.items.now)) c.items-test.true c.one-item.is
    c.is_recipe_here-is_recipe.ensures c.in_ok-keep_where.ensures c.items.invariant
