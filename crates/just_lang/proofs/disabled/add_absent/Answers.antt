-- One more name.
use Rattle.std.proofs.Common.{◌≡◌, ◌+◌, ◌∙◌, List, drop, ap}
use Rattle.std.specs.Option.{option_map}
use Rattle.just_lang_syntax.specs.declared.ast.AstDependency.{AstDependency}
use Rattle.just_lang_syntax.specs.declared.ast.Name.{Name}
use Rattle.just_lang_spots.proofs.ListLaws.{drop_here}
use Rattle.just_lang_names.specs.Names.{layout_of}
use Rattle.just_lang.specs.Disabling.{absent_of_dependency}
use Rattle.just_lang.specs.DisablingTables.{text}
use Rattle.just_lang_rules.proofs.Loops.{viewed_step}
use Rattle.just_lang.proofs.disabled.add_absent.Goals as goal

pub dependencies-preserved : goal.dependencies-preserved
dependencies-preserved c =
    let layout = layout_of c.args.names.now in
    let m = c.args.number in
    let xs = c.args.dependencies.now in
    let i = c.dependencies.dependency-index in
    let x = c.dependency-item.result in
    let is : option_map text c.absent_of-name.result ≡ absent_of_dependency layout m x.path = c.absent_of-name.ensures ∙ ap (λ (p : List Name). absent_of_dependency layout m p) c.as_slice-path.ensures in
    viewed_step text (λ (d : AstDependency). absent_of_dependency layout m d.path) x (drop (i + 1) xs) (drop i xs) c.dependencies.absent.items c.push_some.new.list.items c.absent_of-name.result
    (drop_here xs i x c.dependencies-test.true c.dependency-item.is) is c.in_ok-push_some.ensures ∙ c.dependencies.invariant
