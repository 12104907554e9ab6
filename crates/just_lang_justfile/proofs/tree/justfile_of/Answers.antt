-- One more module is made in front of the others.
use Rattle.std.proofs.Common.{rules, ◌≡◌, ◌<◌, ◌+◌, ◌-◌, ◌++◌, ◌∷◌, [], ℕ, List, true, length, reverse, get_or, subst, arith}
use Rattle.std.specs.Prelude.{All}
use Rattle.just_lang_types.specs.declared.project.Justfile.{Justfile}
use Rattle.just_lang_spots.specs.Winners.{wins_in}
use Rattle.just_lang_types.specs.Modules.{path_of, modules_of}
use Rattle.just_lang_justfile.specs.Trees.{is_within, behind_those_within, paths_of}
use Rattle.just_lang_justfile.proofs.Nested.{Made, made_step, whole}
use Rattle.just_lang_justfile.proofs.tree.justfile_of.Goals as goal

pub modules-preserved : goal.modules-preserved
modules-preserved g c =
    let project = c.args.project.now in
    let modules = project.layout.now.modules in
    let n : ℕ = c.modules.left - 1 in
    let next : c.modules.left ≡ n + 1 = omega arith in
    let m = c.index-modules-left.result in
    let old : Made (g.T.Texts.text_of project.texts.now) (g.L.Linker.links project.links.now) (wins_in project.winners.now) project.layout.now (n + 1) c.modules.outer.items =
    subst (λ (k : ℕ). Made (g.T.Texts.text_of project.texts.now) (g.L.Linker.links project.links.now) (wins_in project.winners.now) project.layout.now k c.modules.outer.items) next c.modules.invariant.made in
    let lt : n < length modules = omega arith in
    let is : m ≡ get_or modules n m = search rules in
    let rest = c.take_within.new.modules.items in
    let inner = c.in_ok-inner.inner.items in
    let j = c.in_ok-made.made in
    let parts = c.in_ok-inner.ensures.parts in
    let path : List (List ℕ) = c.as_slice-in-modules.result.now in
    let path_is : path ≡ m.path.components = search rules in
    let within = subst (λ (p : List (List ℕ)). All (λ (i : Justfile). is_within p (path_of i).components ≡ true) inner) path_is c.in_ok-inner.ensures.within in
    let others = subst (λ (p : List (List ℕ)). paths_of (reverse rest) ≡ behind_those_within p (paths_of (reverse c.modules.outer.items))) path_is c.in_ok-inner.ensures.others in
    let said = c.in_ok-made.ensures.said in
    let inner_is : modules_of j ≡ inner = search rules in
    record {
      made = made_step (g.T.Texts.text_of project.texts.now) (g.L.Linker.links project.links.now) (wins_in project.winners.now) project.layout.now n m c.modules.outer.items rest inner c.push_one.new.list.items j old lt is parts within others said inner_is c.in_ok-push_one.ensures;
      within = omega arith;
    }

pub returns : goal.returns
returns g c =
    let project = c.args.project.now in
    let none : c.modules.left ≡ 0 = omega arith in
    let made : Made (g.T.Texts.text_of project.texts.now) (g.L.Linker.links project.links.now) (wins_in project.winners.now) project.layout.now 0 c.modules.outer.items =
    subst (λ (k : ℕ). Made (g.T.Texts.text_of project.texts.now) (g.L.Linker.links project.links.now) (wins_in project.winners.now) project.layout.now k c.modules.outer.items) none c.modules.invariant.made in
    whole (g.T.Texts.text_of project.texts.now) (g.L.Linker.links project.links.now) (wins_in project.winners.now) project.layout.now c.modules.outer.items c.pop.new.self.items c.in-Some.root c.requires.root made (search rules)
