-- One more module, and all of them.
use Rattle.std.proofs.Common.{◌≡◌, ◌<◌, ◌++◌, ◌∷◌, [], length, map, drop, rules, arith}
use Rattle.just_lang_spots.specs.Winners.{wins_in}
use Rattle.just_print_tree.specs.Kept.{tolds}
use Rattle.just_print_tree.specs.Told.{told_each}
use Rattle.just_print_tree.proofs.ToldLaws.{told_step, told_end}
use Rattle.just_print_tree.proofs.told.told_each.Goals as goal

pub modules-preserved : goal.modules-preserved
modules-preserved c =
    let wins = wins_in c.args.winners.now in
    let js = c.args.justfiles.now in
    let n = c.modules.at in
    let lt : n < length c.args.modules.now = omega arith in
    let pushed : c.push.new.self.items ≡ c.modules.all.items ++ c.in_ok-told.told.items ∷ [] = search rules in
    told_step wins c.args.files.now c.args.modules.now js n c.index-modules-at.result c.index-justfiles-at.result c.modules.all.items c.push.new.self.items c.in_ok-told.told.items
    (told_each wins c.args.files.now c.args.modules.now (map (λ j. j.now) js)) lt c.requires c.index-modules-at.is c.index-justfiles-at.is c.in_ok-told.ensures pushed c.modules.invariant

pub returns : goal.returns
returns c =
    let wins = wins_in c.args.winners.now in
    let js = map (λ j. j.now) c.args.justfiles.now in
    let end : c.modules.at ≡ length c.args.modules.now = omega arith in
    told_end wins c.args.files.now c.args.modules.now (drop c.modules.at js) c.modules.at (map tolds c.modules.all.items) (told_each wins c.args.files.now c.args.modules.now js) end c.modules.invariant
