-- One more, where there is one; where none is left, those so far are all.
use Rattle.std.proofs.Common.{ℕ, ◌+◌, ◌≤◌, ◌∙◌, List, length, drop, refl, arith}
use Rattle.just_lang_spots.proofs.ListLaws.{drop_here}
use Rattle.just_lang_syntax.specs.declared.ast.Argument.{Argument}
use Rattle.just_lang_types.specs.Options.{text_at}
use Rattle.just_lang_shapes.specs.Parameters.{values_of}
use Rattle.just_lang_shapes.proofs.ListLaws.{picked_step, made_all}
use Rattle.just_lang_shapes.proofs.keys.values_of.Goals as goal

pub arguments-preserved : goal.arguments-preserved
arguments-preserved g c =
    let xs = c.args.arguments.now in
    let i = c.arguments.argument-index in
    let x = c.argument-item.result in
    picked_step (text_at (g.T.Texts.text_of c.args.texts.now) c.args.key.now) x (drop (i + 1) xs) (drop i xs) c.arguments.all.items c.push_some.new.list.items c.in_ok-text.text
    (drop_here xs i x c.arguments-test.true c.argument-item.is) c.in_ok-text.ensures c.in_ok-push_some.ensures ∙ c.arguments.invariant

pub returns : goal.returns
returns g c =
    let made : List Argument → List (List ℕ) = λ ys. values_of (g.T.Texts.text_of c.args.texts.now) c.args.key.now ys in
    let xs = c.args.arguments.now in
    let last : length xs ≤ c.arguments.argument-index = omega arith in
    c.from.ensures ∙ made_all made xs c.arguments.argument-index c.arguments.all.items (made xs) last refl c.arguments.invariant
