-- One more place.
use Rattle.std.proofs.Common.{◌≡◌, ◌+◌, ◌∙◌, List, drop, ap}
use Rattle.just_lang_syntax.specs.declared.ast.Name.{Name}
use Rattle.just_lang_spots.proofs.ListLaws.{drop_here}
use Rattle.just_lang_names.specs.Lookup.{dependency_target}
use Rattle.just_lang_names.specs.Names.{layout_of, wins_of}
use Rattle.just_lang.specs.Cycles.{place_of_target, place_of_dependency}
use Rattle.just_lang_rules.proofs.Loops.{picked_step}
use Rattle.just_lang.proofs.recipe.add_needed.Goals as goal

pub dependencies-preserved : goal.dependencies-preserved
dependencies-preserved c =
    let wins = wins_of c.args.names.now in
    let layout = layout_of c.args.names.now in
    let m = c.args.number in
    let xs = c.args.dependencies.now in
    let i = c.dependencies.dependency-index in
    let x = c.dependency-item.result in
    let is : c.in_ok-place.place ≡ place_of_dependency wins layout m x =
    c.in_ok-place.ensures ∙ ap (place_of_target wins layout) (c.target_of-target.ensures.target ∙ ap (λ (p : List Name). dependency_target wins layout m p) c.as_slice-path.ensures) in
    picked_step (place_of_dependency wins layout m) x (drop (i + 1) xs) (drop i xs) c.dependencies.places.items c.push_some.new.list.items c.in_ok-place.place
    (drop_here xs i x c.dependencies-test.true c.dependency-item.is) is c.in_ok-push_some.ensures ∙ c.dependencies.invariant
