-- One more parameter; where none is left, those so far are all.
use Rattle.std.proofs.Common.{◌≡◌, ◌≤◌, ◌∙◌, List, length, refl, ap, arith}
use Rattle.just_lang_syntax.specs.declared.ast.AstParameter.{AstParameter}
use Rattle.just_lang_types.specs.declared.recipe.Parameter.{Parameter}
use Rattle.just_lang_shapes.specs.Parameters.{keys_of, parameter_with, parameters_of}
use Rattle.just_lang_shapes.proofs.ListLaws.{made_all}
use Rattle.just_lang_shapes.proofs.Parameters.{parameters_step}
use Rattle.just_lang_shapes.proofs.parameter.parameters_of.Goals as goal

pub parameters-preserved : goal.parameters-preserved
parameters-preserved g c =
    let text_of = g.T.Texts.text_of c.args.texts.now in
    let p = c.parameter-item.result in
    let made : c.in_ok-made.made ≡ parameter_with text_of (keys_of text_of c.args.attributes.now p.name.text) p =
    c.in_ok-made.ensures ∙ ap (λ ks. parameter_with text_of ks p) (c.keys-of_parameter.ensures ∙ c.in_ok-keys.ensures p.name.text) in
    parameters_step text_of c.args.attributes.now c.args.parameters.now c.parameters.parameter-index p c.parameters.all.items c.push.new.self.items c.in_ok-made.made c.parameters-test.true c.parameter-item.is made c.in_ok-push.ensures.items c.parameters.invariant

pub returns : goal.returns
returns g c =
    let made : List AstParameter → List Parameter = λ ys. parameters_of (g.T.Texts.text_of c.args.texts.now) c.args.attributes.now ys in
    let xs = c.args.parameters.now in
    let last : length xs ≤ c.parameters.parameter-index = omega arith in
    c.from.ensures ∙ made_all made xs c.parameters.parameter-index c.parameters.all.items (made xs) last refl c.parameters.invariant
