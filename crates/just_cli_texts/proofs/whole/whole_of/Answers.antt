-- The layout has as many modules as the justfile, and the parts are those that were found.
use Rattle.std.proofs.Common.{rules, ◌≡◌, ℕ, List, length, map, subst, arith}
use Rattle.std.proofs.lemmas.Grind.{common_steps}
use Rattle.just_lang_rulebook.specs.Meant.{meant}
use Rattle.just_lang_spots.specs.Winners.{wins_in}
use Rattle.just_print_tree.specs.Branches.{IsTreeOf}
use Rattle.just_print_tree.specs.Kept.{tolds}
use Rattle.just_print_tree.specs.Told.{told_each}
use Rattle.just_cli_texts.proofs.Wholly.{has_modules, as_many_modules, parts_are}
use Rattle.just_cli_texts.proofs.whole.whole_of.Goals as goal

pub listed_of-requires : goal.listed_of-requires
listed_of-requires c = has_modules c.args.environ.now.pairs c.args.laid.now.layout c.args.laid.now.justfile c.requires

pub told_each-requires : goal.told_each-requires
told_each-requires c =
    let h : length c.args.laid.now.layout.modules ≡ length (map (λ j. j.now) c.in_ok-justfiles.justfiles.items) =
    as_many_modules c.args.environ.now.pairs c.args.laid.now.layout c.args.laid.now.justfile c.requires _ c.in_ok-justfiles.ensures in
    grind (arith, common_steps, h)

pub returns-clause-parts : goal.returns-clause-parts
returns-clause-parts c =
    let l = c.args.laid.now in
    let environ = c.args.environ.now.pairs in
    let all = map (λ j. j.now) c.in_ok-justfiles.justfiles.items in
    let is : IsTreeOf (meant environ) (wins_in l.winners) l.layout l.justfile c.in_ok-tree.tree =
    subst (λ (w : List (List ℕ)). IsTreeOf (meant environ) (wins_in w) l.layout l.justfile c.in_ok-tree.tree) c.as_slice-winners.ensures c.in_ok-tree.ensures in
    let told : map tolds c.in_ok-recipes.recipes.items ≡ told_each (wins_in l.winners) l.layout.files l.layout.modules all = search rules in
    parts_are environ l all c.in_ok-tree.tree c.in_ok-recipes.recipes.items c.in_ok-justfiles.ensures is told
