-- The recipes of one more module are counted; in the end those of all.
use Rattle.std.proofs.Common.{rules, arith, ◌≡◌, ◌+◌, ◌<◌, ◌≤◌, ◌++◌, [], ◌∷◌, length, get_or, ap}
use Rattle.just_lang.proofs.BeforeLaws.{module_more, modules_all}
use Rattle.just_lang.proofs.before.before_each.Goals as goal

pub modules-preserved : goal.modules-preserved
modules-preserved c =
    let n = c.of_module-item.result in
    let size : length c.deref-of_module-items.result.now ≡ length c.args.names.now.modules.items = ap length c.deref-of_module-items.ensures.value in
    let less : c.modules.of_module-index < length c.args.names.now.modules.items = let h = c.modules-test.true in omega (arith, size, h) in
    let here : n ≡ get_or c.args.names.now.modules.items c.modules.of_module-index n = let same = c.deref-of_module-items.ensures.value in let h = c.of_module-item.is in cc in
    let pushed : c.push.new.self.items ≡ c.modules.before.items ++ c.modules.count ∷ [] = search rules in
    let counted : c.in_ok-count.count ≡ c.modules.count + length n.recipes.items = search rules in
    module_more c.args.names.now c.requires c.modules.of_module-index n c.modules.count c.in_ok-count.count c.modules.before.items c.push.new.self.items less here pushed counted c.modules.invariant

pub returns : goal.returns
returns c =
    let size : length c.deref-of_module-items.result.now ≡ length c.args.names.now.modules.items = ap length c.deref-of_module-items.ensures.value in
    let last : length c.args.names.now.modules.items ≤ c.modules.of_module-index = let h = c.modules-test.false in omega (arith, size, h) in
    let end : c.modules.of_module-index ≤ length c.args.names.now.modules.items = let h = c.modules.auto.of_module-index-end in omega (arith, size, h) in
    modules_all c.args.names.now c.requires c.modules.of_module-index c.modules.count c.modules.before.items last end c.modules.invariant
