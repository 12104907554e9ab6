-- One more, where there is one; where none is left, those so far are all.
use Rattle.std.proofs.Common.{ℕ, ◌+◌, ◌≤◌, ◌∙◌, List, length, drop, refl, arith}
use Rattle.just_lang_spots.proofs.ListLaws.{drop_here}
use Rattle.just_lang_syntax.specs.declared.ast.Attribute.{Attribute}
use Rattle.just_lang_shapes.specs.Attributes.{text_behind, texts_behind}
use Rattle.just_lang_shapes.proofs.ListLaws.{picked_step, made_all}
use Rattle.just_lang_shapes.proofs.attributes.texts_behind.Goals as goal

pub attributes-preserved : goal.attributes-preserved
attributes-preserved g c =
    let xs = c.args.attributes.now in
    let i = c.attributes.attribute-index in
    let x = c.attribute-item.result in
    picked_step (text_behind (g.T.Texts.text_of c.args.texts.now) c.args.name.now) x (drop (i + 1) xs) (drop i xs) c.attributes.all.items c.push_some.new.list.items c.in_ok-text.text
    (drop_here xs i x c.attributes-test.true c.attribute-item.is) c.in_ok-text.ensures c.in_ok-push_some.ensures ∙ c.attributes.invariant

pub returns : goal.returns
returns g c =
    let made : List Attribute → List (List ℕ) = λ ys. texts_behind (g.T.Texts.text_of c.args.texts.now) c.args.name.now ys in
    let xs = c.args.attributes.now in
    let last : length xs ≤ c.attributes.attribute-index = omega arith in
    c.from.ensures ∙ made_all made xs c.attributes.attribute-index c.attributes.all.items (made xs) last refl c.attributes.invariant
