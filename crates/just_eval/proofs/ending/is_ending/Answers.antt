-- What holds of the modules that were found holds of the modules.
use Rattle.std.proofs.Common.{[], ◌∷◌, map, sym, subst}
use Rattle.std.proofs.lemmas.Result.{IfOk-weaker}
use Rattle.just_lang_types.specs.Modules.{AreModules}
use Rattle.just_eval.proofs.Leading.{of_all, to_all}
use Rattle.just_eval.proofs.ending.is_ending.Goals as goal

pub returns : goal.returns
returns c =
    let ms = map (λ m. m.now) c.as_slice.result.now in
    let first = c.args.justfile.now ∷ [] in
    let found : AreModules first ms = subst (λ l. AreModules first (map (λ m. m.now) l)) (sym c.as_slice.ensures.value) c.in_ok-modules.ensures in
    IfOk-weaker c.all_ending.result _ _ (λ b h. (λ t. of_all first ms found (h.0 t), λ all. h.1 (to_all first ms found all))) c.all_ending.ensures
