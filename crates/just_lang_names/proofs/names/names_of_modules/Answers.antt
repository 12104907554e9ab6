-- One more module has its names.
use Rattle.std.proofs.Common.{◌++◌, [], ◌∷◌, List, take, sym, subst}
use Rattle.just_lang_layout.specs.declared.layout.Module.{Module}
use Rattle.just_lang_spots.proofs.ListLaws.{take_here}
use Rattle.just_lang_spots.specs.Winners.{wins_in}
use Rattle.just_lang_names.specs.declared.names.ModuleNames.{ModuleNames}
use Rattle.just_lang_names.specs.Names.{AreModuleNames}
use Rattle.just_lang_names.proofs.TableLaws.{names_more}
use Rattle.just_lang_names.proofs.names.names_of_modules.Goals as goal

pub modules-preserved : goal.modules-preserved
modules-preserved c =
    let wins = wins_in c.args.winners.now in
    let files = c.args.files.now in
    let ms = c.args.modules.now in
    let i = c.modules.some_module-index in
    let m = c.some_module-item.result in
    subst (λ (xs : List Module). AreModuleNames wins files xs c.push.new.self.items) (sym (take_here ms i m c.modules-test.true c.some_module-item.is))
    (subst (λ (ns : List ModuleNames). AreModuleNames wins files (take i ms ++ m ∷ []) ns) (sym c.in_ok-push.ensures.items)
    (names_more wins files (take i ms) c.modules.names.items m c.in_ok-one.one c.modules.invariant c.in_ok-one.ensures))
