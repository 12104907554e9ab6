-- One more, where there is one.
use Rattle.std.proofs.Common.{◌+◌, ◌≤◌, ◌∙◌, List, length, drop, refl, arith}
use Rattle.std.specs.Prelude.{filter_map, option_map}
use Rattle.std.specs.List.{enumerate_from}
use Rattle.just_lang_spots.specs.declared.entries.Entry.{Entry}
use Rattle.just_lang_spots.specs.Entries.{entry, entries}
use Rattle.just_lang_shapes.proofs.ListLaws.{picked_step, made_all}
use Rattle.just_lang_justfile.proofs.ListLaws.{places_here}
use Rattle.just_print_tree.specs.Kept.{told, tolds}
use Rattle.just_print_tree.specs.Told.{ToldRecipe, told_at, told_among}
use Rattle.just_print_tree.proofs.ToldLaws.{tolds_option}
use Rattle.just_print_tree.proofs.told.told_among.Goals as goal

pub standing-preserved : goal.standing-preserved
standing-preserved c =
    let xs = c.args.standing.now in
    let i = c.standing.at in
    let x = c.index-standing-at.result in
    picked_step (told_at c.args.recipes.now) (i, entry x) (enumerate_from (i + 1) (entries (drop (i + 1) xs))) (enumerate_from i (entries (drop i xs))) (tolds c.standing.all.items) (tolds c.push_some.new.list.items) (option_map told c.told_at-told.result)
    (places_here xs i x c.standing-test.true c.index-standing-at.is) c.told_at-told.ensures (tolds_option c.standing.all.items c.push_some.new.list.items c.told_at-told.result c.in_ok-push_some.ensures) ∙ c.standing.invariant

pub returns : goal.returns
returns c =
    let i = c.standing.at in
    let made : List Entry → List ToldRecipe = λ ys. filter_map (told_at c.args.recipes.now) (enumerate_from i (entries ys)) in
    let xs = c.args.standing.now in
    let last : length xs ≤ i = omega arith in
    made_all made xs i (tolds c.standing.all.items) (told_among c.args.recipes.now (entries xs)) last refl c.standing.invariant
