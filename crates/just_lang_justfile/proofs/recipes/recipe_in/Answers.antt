-- The recipe with what it depends on and what stands above it.
use Rattle.std.proofs.Common.{◌≡◌, ◌∙◌, rules}
use Rattle.std.specs.Option.{option_copied}
use Rattle.just_lang_justfile.specs.Comments.{above_in}
use Rattle.just_lang_justfile.specs.Recipes.{dependencies_of}
use Rattle.just_lang_justfile.proofs.Tables.{above_is, recipe_by}
use Rattle.just_lang_justfile.proofs.recipes.recipe_in.Goals as goal

pub returns : goal.returns
returns g c =
    let files = c.args.project.now.layout.now.files in
    let links = g.L.Linker.links c.args.project.now.links.now in
    let text_of = g.T.Texts.text_of c.args.project.now.texts.now in
    let r = c.args.recipe.now in
    let above : option_copied c.above_in-above.result ≡ above_in files c.args.file r.name =
    c.above_in-above.ensures ∙ above_is files c.args.comments.now c.args.file r.name c.requires.comments in
    let priors : c.in_ok-priors.priors ≡ dependencies_of links c.args.parent.number text_of r.priors = search rules in
    let subsequents : c.in_ok-subsequents.subsequents ≡ dependencies_of links c.args.parent.number text_of r.subsequents = search rules in
    recipe_by text_of c.args.parent.path.now r c.recipe_of.result
    (option_copied c.above_in-above.result) (above_in files c.args.file r.name) c.in_ok-priors.priors (dependencies_of links c.args.parent.number text_of r.priors) c.in_ok-subsequents.subsequents (dependencies_of links c.args.parent.number text_of r.subsequents)
    c.recipe_of.ensures above priors subsequents
