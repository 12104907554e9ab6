-- One of the recipes of a module has the path, or none has it.
use Rattle.std.proofs.Common.{◌∙◌, Option, sym, ap}
use Rattle.std.specs.Prelude.{option_map}
use Rattle.just_print_tree.specs.declared.told.Told.{Told}
use Rattle.just_print_tree.specs.Kept.{told}
use Rattle.just_print_tree.proofs.ToldLaws.{found_here, found_later}
use Rattle.just_print_tree.proofs.told.found_told.Goals as goal

pub returns-in-Some : goal.returns-in-Some
returns-in-Some c =
    found_here c.args.all.now c.modules.recipes-index c.recipes-item.result c.as_slice.result.now c.args.path.now (told c.in-Some.one) c.modules-test.true c.recipes-item.is c.as_slice.ensures c.in-Some.ensures ∙ c.modules.invariant

pub modules-preserved : goal.modules-preserved
modules-preserved c =
    found_later c.args.all.now c.modules.recipes-index c.recipes-item.result c.as_slice.result.now c.args.path.now c.modules-test.true c.recipes-item.is c.as_slice.ensures (sym (ap (λ (o : Option Told). option_map told o) c.in_default.is) ∙ c.found_in.ensures) ∙ c.modules.invariant
