-- One more module's arities.
use Rattle.std.proofs.Common.{◌≡◌, ◌+◌, List, ◌∷◌, ◌∙◌, map, drop, rules, subst}
use Rattle.just_lang_spots.specs.Entries.{entries}
use Rattle.just_lang_spots.proofs.ListLaws.{drop_here}
use Rattle.just_lang_names.specs.declared.names.ModuleNames.{ModuleNames}
use Rattle.just_lang_names.specs.Arities.{arity_of_item}
use Rattle.just_lang_names.proofs.Steps.{made_step}
use Rattle.just_lang_names.proofs.arity.arities_of.Goals as goal

pub modules-preserved : goal.modules-preserved
modules-preserved g c =
    let xs = c.args.names.now.modules.items in
    let i = c.modules.of_module-index in
    let x = c.of_module-item.result in
    let front : drop i xs ≡ x ∷ drop (i + 1) xs = subst (λ (ys : List ModuleNames). drop i ys ≡ x ∷ drop (i + 1) ys) c.deref-of_module-items.ensures.value (drop_here c.deref-of_module-items.result.now i x c.modules-test.true c.of_module-item.is) in
    let is : c.in_ok-arities.arities ≡ map (arity_of_item (g.T.Texts.text_of c.args.texts.now)) (entries x.recipes.items) = search rules in
    made_step (λ (n : ModuleNames). map (arity_of_item (g.T.Texts.text_of c.args.texts.now)) (entries n.recipes.items)) x (drop (i + 1) xs) (drop i xs) c.modules.modules.items c.push.new.self.items c.in_ok-arities.arities
    front is c.in_ok-push.ensures.items ∙ c.modules.invariant
