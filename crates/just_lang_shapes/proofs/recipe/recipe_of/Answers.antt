-- The fields are what the recipe says.
use Rattle.std.proofs.Common.{◌∙◌, ap}
use Rattle.std.specs.Option.{option_copied}
use Rattle.just_lang_shapes.specs.Attributes.{is_private}
use Rattle.just_lang_shapes.proofs.Fields.{recipe_are}
use Rattle.just_lang_shapes.proofs.recipe.recipe_of.Goals as goal

pub returns : goal.returns
returns g c =
    let r = c.args.recipe.now in
    let w = c.in_ok-words.words in
    let s = c.in_ok-said.said in
    let of_words = c.in_ok-words.ensures in
    let of_said = c.in_ok-said.ensures in
    recipe_are (g.T.Texts.text_of c.args.texts.now) c.args.around.parent.now (option_copied c.args.around.above) c.args.around.priors c.args.around.subsequents r
    w.name w.path s.doc w.attributes s.parameters w.body c.is_private-private.result c.is_script-script.result
    of_words.name of_words.path of_said.doc of_words.attributes of_said.parameters of_words.body
    (c.is_private-private.ensures ∙ ap (λ attributes. is_private attributes c.as_str-called.result.now) c.as_slice-attributes.ensures ∙ ap (λ name. is_private r.attributes name) c.as_str-called.ensures)
    c.is_script-script.ensures
