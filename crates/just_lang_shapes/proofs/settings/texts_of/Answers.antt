-- One more, where there is one; where none is left, those so far are all.
use Rattle.std.proofs.Common.{ℕ, ◌+◌, ◌≤◌, ◌∙◌, List, length, drop, refl, arith}
use Rattle.std.specs.Prelude.{filter_map}
use Rattle.just_lang_syntax.specs.declared.ast.StringLiteral.{StringLiteral}
use Rattle.just_lang_spots.proofs.ListLaws.{drop_here}
use Rattle.just_lang_shapes.proofs.ListLaws.{picked_step, made_all}
use Rattle.just_lang_shapes.proofs.settings.texts_of.Goals as goal

pub literals-preserved : goal.literals-preserved
literals-preserved g c =
    let xs = c.args.literals.now in
    let i = c.literals.literal-index in
    let x = c.literal-item.result in
    picked_step (g.T.Texts.text_of c.args.texts.now) x (drop (i + 1) xs) (drop i xs) c.literals.all.items c.push_some.new.list.items c.in_ok-text.text
    (drop_here xs i x c.literals-test.true c.literal-item.is) c.in_ok-text.ensures c.in_ok-push_some.ensures ∙ c.literals.invariant

pub returns : goal.returns
returns g c =
    let made : List StringLiteral → List (List ℕ) = λ ys. filter_map (g.T.Texts.text_of c.args.texts.now) ys in
    let xs = c.args.literals.now in
    let last : length xs ≤ c.literals.literal-index = omega arith in
    c.from.ensures ∙ made_all made xs c.literals.literal-index c.literals.all.items (made xs) last refl c.literals.invariant
