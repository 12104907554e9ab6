-- The recipes of one more module; in the end those of all.
use Rattle.std.proofs.Common.{rules, arith, ◌≡◌, ◌<◌, ◌≤◌, ◌++◌, [], ◌∷◌, length, get_or, ap}
use Rattle.std.specs.Prelude.{filter_map}
use Rattle.just_lang_spots.specs.Entries.{entries}
use Rattle.just_lang.specs.CycleTables.{standings, standing_in}
use Rattle.just_lang.proofs.NameTables.{recipes_more, recipes_all}
use Rattle.just_lang.proofs.recipe.recipes_of_modules.Goals as goal

pub modules-preserved : goal.modules-preserved
modules-preserved c =
    let n = c.of_module-item.result in
    let size : length c.deref-of_module-items.result.now ≡ length c.args.names.now.modules.items = ap length c.deref-of_module-items.ensures.value in
    let less : c.modules.number < length c.args.names.now.modules.items = let h = c.modules-test.true in omega (arith, size, h) in
    let here : n ≡ get_or c.args.names.now.modules.items c.modules.number n = let same = c.deref-of_module-items.ensures.value in let h = c.of_module-item.is in cc in
    let counted : c.push.new.self.items ≡ c.modules.before.items ++ length c.modules.list.items ∷ [] = search rules in
    let more : standings c.add_recipes.new.list.items ≡ standings c.modules.list.items ++ filter_map (standing_in c.modules.number) (entries n.recipes.items) = search rules in
    recipes_more c.args.names.now c.requires c.modules.number n c.modules.list.items c.add_recipes.new.list.items c.modules.before.items c.push.new.self.items less here counted more c.modules.invariant

pub returns : goal.returns
returns c =
    let size : length c.deref-of_module-items.result.now ≡ length c.args.names.now.modules.items = ap length c.deref-of_module-items.ensures.value in
    let last : length c.args.names.now.modules.items ≤ c.modules.number = let h = c.modules-test.false in omega (arith, size, h) in
    recipes_all c.args.names.now c.requires c.modules.number c.modules.list.items c.modules.before.items last c.modules.invariant
