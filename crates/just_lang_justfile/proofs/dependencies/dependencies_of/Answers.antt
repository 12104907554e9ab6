-- One more, where there is one.
use Rattle.std.proofs.Common.{ℕ, ◌+◌, ◌≤◌, ◌∙◌, List, length, drop, refl, arith}
use Rattle.just_lang_syntax.specs.declared.ast.AstDependency.{AstDependency}
use Rattle.just_lang_types.specs.declared.recipe.Dependency.{Dependency}
use Rattle.just_lang_spots.proofs.ListLaws.{drop_here}
use Rattle.just_lang_justfile.specs.Recipes.{dependency_of, dependencies_of}
use Rattle.just_lang_shapes.proofs.ListLaws.{picked_step, made_all}
use Rattle.just_lang_justfile.proofs.dependencies.dependencies_of.Goals as goal

pub dependencies-preserved : goal.dependencies-preserved
dependencies-preserved g c =
    let xs = c.args.dependencies.now in
    let i = c.dependencies.dependency-index in
    let x = c.dependency-item.result in
    picked_step (dependency_of (g.L.Linker.links c.args.links.now) c.args.number (g.T.Texts.text_of c.args.texts.now)) x (drop (i + 1) xs) (drop i xs) c.dependencies.all.items c.push_some.new.list.items c.in_ok-made.made
    (drop_here xs i x c.dependencies-test.true c.dependency-item.is) c.in_ok-made.ensures c.in_ok-push_some.ensures ∙ c.dependencies.invariant

pub returns : goal.returns
returns g c =
    let made : List AstDependency → List Dependency = λ ds. dependencies_of (g.L.Linker.links c.args.links.now) c.args.number (g.T.Texts.text_of c.args.texts.now) ds in
    let xs = c.args.dependencies.now in
    let last : length xs ≤ c.dependencies.dependency-index = omega arith in
    c.from.ensures ∙ made_all made xs c.dependencies.dependency-index c.dependencies.all.items (made xs) last refl c.dependencies.invariant
