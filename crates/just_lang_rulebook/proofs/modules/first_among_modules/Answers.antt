-- One more module.
use Rattle.std.proofs.Common.{ℕ, List, ◌∙◌, ap}
use Rattle.just_lang_syntax.specs.declared.ast.AstItem.{AstItem}
use Rattle.just_lang_layout.specs.declared.layout.Module.{Module}
use Rattle.just_lang_layout.specs.Items.{items_of_module}
use Rattle.just_lang_spots.specs.declared.spot.Spot.{Spot}
use Rattle.just_lang_spots.specs.Spots.{first_spot}
use Rattle.just_lang_spots.specs.Entries.{entries}
use Rattle.just_lang_spots.proofs.Spots.{first_step}
use Rattle.just_lang_rulebook.proofs.modules.first_among_modules.Goals as goal

pub modules-preserved : goal.modules-preserved
modules-preserved g c =
    let f : Module → List Spot = λ m. g.R.ModuleRule.spots c.args.rule.now (items_of_module c.args.files.now m) in
    first_step f c.modules.found c.in_ok-here.here c.earlier-found.result c.args.modules.now c.modules.some_module-index c.some_module-item.result c.modules-test.true c.some_module-item.is
    (c.in_ok-here.ensures ∙ ap (λ (xs : List (ℕ × AstItem)). first_spot (g.R.ModuleRule.spots c.args.rule.now xs)) (ap entries c.as_slice.ensures.value ∙ c.in_ok-items.ensures)) c.earlier-found.ensures ∙ c.modules.invariant
