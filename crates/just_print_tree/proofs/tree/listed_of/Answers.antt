-- The last one that was made is the tree.
use Rattle.std.proofs.Common.{◌≡◌, ◌++◌, ◌∷◌, [], map, reverse, sym, rules}
use Rattle.just_lang_spots.specs.Winners.{wins_in}
use Rattle.just_print_tree.specs.Kept.{branches, tolds}
use Rattle.just_print_tree.proofs.ToldLaws.{justfiles}
use Rattle.just_print_tree.proofs.Growing.{sliced, as_many, grown_there, told_there, listed_so, not_none}
use Rattle.just_print_tree.proofs.tree.listed_of.Goals as goal

pub told_each-requires : goal.told_each-requires
told_each-requires g c =
    let js = c.as_slice-justfiles.result.now in
    let whole = sliced c.args.justfile.now c.in_ok-found.found.items js c.as_slice-justfiles.ensures.value c.in_ok-found.ensures in
    as_many c.args.layout.now c.as_slice-modules.result.now c.args.justfile.now js c.requires c.as_slice-modules.ensures whole

pub grown-requires-clause-count : goal.grown-requires-clause-count
grown-requires-clause-count g c =
    let js = c.as_slice-justfiles.result.now in
    let whole = sliced c.args.justfile.now c.in_ok-found.found.items js c.as_slice-justfiles.ensures.value c.in_ok-found.ensures in
    sym (as_many c.args.layout.now c.as_slice-modules.result.now c.args.justfile.now js c.requires c.as_slice-modules.ensures whole)

pub returns : goal.returns
returns g c =
    let text_of = g.T.Texts.text_of c.args.texts.now in
    let wins = wins_in c.args.winners.now in
    let layout = c.args.layout.now in
    let j = c.args.justfile.now in
    let js = justfiles c.as_slice-justfiles.result.now in
    let all = map tolds c.as_slice.result.now in
    let files = c.as_slice-files.result.now in
    let modules = c.as_slice-modules.result.now in
    let whole = sliced j c.in_ok-found.found.items c.as_slice-justfiles.result.now c.as_slice-justfiles.ensures.value c.in_ok-found.ensures in
    let all_is = told_there text_of wins layout files modules js c.in_ok-recipes.recipes.items c.as_slice.result.now c.as_slice-files.ensures c.as_slice-modules.ensures c.as_slice.ensures.value c.in_ok-recipes.ensures in
    let grown = grown_there text_of wins layout files modules js all (reverse (branches c.in_ok-outer.outer.items)) c.as_slice-files.ensures c.as_slice-modules.ensures c.in_ok-outer.ensures in
    let popped : c.in_ok-outer.outer.items ≡ c.pop.new.self.items ++ c.in-Some.root ∷ [] = search rules in
    listed_so text_of wins layout js all j c.in_ok-outer.outer.items c.pop.new.self.items c.in-Some.root whole all_is grown popped

pub unreachable-requires : goal.unreachable-requires
unreachable-requires g c =
    let text_of = g.T.Texts.text_of c.args.texts.now in
    let wins = wins_in c.args.winners.now in
    let layout = c.args.layout.now in
    let j = c.args.justfile.now in
    let js = justfiles c.as_slice-justfiles.result.now in
    let all = map tolds c.as_slice.result.now in
    let outer = c.in_ok-outer.outer.items in
    let whole = sliced j c.in_ok-found.found.items c.as_slice-justfiles.result.now c.as_slice-justfiles.ensures.value c.in_ok-found.ensures in
    let grown = grown_there text_of wins layout c.as_slice-files.result.now c.as_slice-modules.result.now js all (reverse (branches outer)) c.as_slice-files.ensures c.as_slice-modules.ensures c.in_ok-outer.ensures in
    let none : outer ≡ [] = search rules in
    not_none text_of wins layout js all j outer whole grown none
