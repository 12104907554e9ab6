-- One more module is made.
use Rattle.std.proofs.Common.{◌≡◌, ◌+◌, ◌-◌, ◌<◌, ℕ, List, length, drop, map, reverse, sym, ap, ◌∙◌, subst, refl, arith}
use Rattle.std.proofs.lemmas.List.{length-map}
use Rattle.just_lang_types.specs.declared.project.Justfile.{Justfile}
use Rattle.just_lang_types.specs.Modules.{AreModules}
use Rattle.just_lang_spots.specs.Winners.{wins_in}
use Rattle.just_print_tree.specs.Branches.{Branch}
use Rattle.just_print_tree.specs.Kept.{branches, tolds, AreGrown}
use Rattle.just_print_tree.proofs.Growing.{grown_none, grown_more, enough}
use Rattle.just_print_tree.proofs.ToldLaws.{kept_long, told_at_place, read_map}
use Rattle.just_print_tree.proofs.tree.grown.Goals as goal

pub modules-init : goal.modules-init
modules-init g c =
    let source = c.args.source.now in
    let js : List Justfile = map (λ j. j.now) c.args.justfiles.now in
    let ms = c.args.modules.now in
    record {
      made =
          subst (λ (bs : List Branch). AreGrown (g.T.Texts.text_of source.texts.now) (wins_in c.args.winners.now) source.files.now (map tolds source.recipes.now) (drop (length ms) ms) (drop (length ms) js) bs)
          (ap (λ bs. reverse (branches bs)) (sym c.new-outer.ensures.items))
          (grown_none (g.T.Texts.text_of source.texts.now) (wins_in c.args.winners.now) source.files.now (map tolds source.recipes.now) ms js (length ms) refl (length-map c.args.justfiles.now (λ j. j.now) ∙ c.requires.count));
      within = omega arith;
    }

pub bounds-source-left : goal.bounds-source-left
bounds-source-left g c =
    let source = c.args.source.now in
    let js : List Justfile = map (λ j. j.now) c.args.justfiles.now in
    let ms = c.args.modules.now in
    let long : length source.recipes.now ≡ length ms =
    kept_long (wins_in c.args.winners.now) source.files.now ms js source.recipes.now (sym (length-map c.args.justfiles.now (λ j. j.now) ∙ c.requires.count)) c.requires.recipes in
    omega (arith, long)

pub grow-requires : goal.grow-requires
grow-requires g c =
    let js : List Justfile = map (λ j. j.now) c.args.justfiles.now in
    let n : ℕ = c.modules.left - 1 in
    let next : c.modules.left ≡ n + 1 = omega arith in
    let lt : n < length js = omega (arith, length-map c.args.justfiles.now (λ j. j.now), c.requires.count) in
    let less : n < length c.args.justfiles.now = omega (arith, c.requires.count) in
    enough c.args.root.now js n c.index-justfiles-left.result.now c.modules.outer.items c.requires.order lt (read_map (λ j. j.now) c.args.justfiles.now n c.index-justfiles-left.result less c.index-justfiles-left.is)
    (subst (λ (k : ℕ). AreModules (map (λ (b : Branch). b.justfile) (reverse (branches c.modules.outer.items))) (drop k js)) next c.modules.invariant.made.1)

pub modules-preserved : goal.modules-preserved
modules-preserved g c =
    let source = c.args.source.now in
    let text_of = g.T.Texts.text_of source.texts.now in
    let wins = wins_in c.args.winners.now in
    let files = source.files.now in
    let all = map tolds source.recipes.now in
    let js : List Justfile = map (λ j. j.now) c.args.justfiles.now in
    let ms = c.args.modules.now in
    let n : ℕ = c.modules.left - 1 in
    let next : c.modules.left ≡ n + 1 = omega arith in
    let lt : n < length ms = omega arith in
    let less : n < length c.args.justfiles.now = omega (arith, c.requires.count) in
    let few : n < length js = omega (arith, length-map c.args.justfiles.now (λ j. j.now), c.requires.count) in
    let m = c.index-modules-left.result in
    let j = c.index-justfiles-left.result in
    let there = read_map (λ i. i.now) c.args.justfiles.now n j less c.index-justfiles-left.is in
    let old : AreGrown text_of wins files all (drop (n + 1) ms) (drop (n + 1) js) (reverse (branches c.modules.outer.items)) =
    subst (λ (k : ℕ). AreGrown text_of wins files all (drop k ms) (drop k js) (reverse (branches c.modules.outer.items))) next c.modules.invariant.made in
    let own_is = told_at_place wins files ms js n m j.now source.recipes.now c.index-source-left.result c.as_slice.result.now lt (sym (length-map c.args.justfiles.now (λ i. i.now) ∙ c.requires.count)) c.index-modules-left.is there c.requires.recipes c.index-source-left.is (c.as_slice.ensures ∙ sym c.index-source-left.is) in
    record {
      made = grown_more text_of wins files all ms js c.args.root.now n m j.now (tolds c.as_slice.result.now) (reverse (branches c.modules.outer.items)) (reverse (branches c.grow.new.outer.items)) c.requires.order lt few c.index-modules-left.is there own_is old c.in_ok-grow.ensures;
      within = omega arith;
    }

pub returns : goal.returns
returns g c =
    let source = c.args.source.now in
    let js : List Justfile = map (λ j. j.now) c.args.justfiles.now in
    let none : c.modules.left ≡ 0 = omega arith in
    subst (λ (k : ℕ). AreGrown (g.T.Texts.text_of source.texts.now) (wins_in c.args.winners.now) source.files.now (map tolds source.recipes.now) (drop k c.args.modules.now) (drop k js) (reverse (branches c.modules.outer.items))) none c.modules.invariant.made
