-- One more, where there is one.
use Rattle.std.proofs.Common.{ℕ, ◌+◌, ◌≤◌, ◌∙◌, List, length, drop, refl, arith}
use Rattle.just_lang_types.specs.declared.recipe.Recipe.{Recipe}
use Rattle.just_lang_spots.specs.declared.entries.Entry.{Entry}
use Rattle.just_lang_spots.specs.Entries.{entry, entries}
use Rattle.just_lang_spots.proofs.ListLaws.{entries_drop}
use Rattle.just_lang_justfile.specs.Recipes.{recipe_at, recipes_of}
use Rattle.just_lang_shapes.proofs.ListLaws.{picked_step, made_all}
use Rattle.just_lang_justfile.proofs.recipes.recipes_of.Goals as goal

pub standing-preserved : goal.standing-preserved
standing-preserved g c =
    let project = c.args.project.now in
    let xs = c.args.standing.now in
    let i = c.standing.one-index in
    let x = c.one-item.result in
    picked_step (recipe_at (g.L.Linker.links project.links.now) c.args.parent.number (g.T.Texts.text_of project.texts.now) project.layout.now.files c.args.parent.path.now)
    (entry x) (entries (drop (i + 1) xs)) (entries (drop i xs)) c.standing.all.items c.push_some.new.list.items c.in_ok-recipe.recipe
    (entries_drop xs i x c.standing-test.true c.one-item.is) c.in_ok-recipe.ensures c.in_ok-push_some.ensures ∙ c.standing.invariant

pub returns : goal.returns
returns g c =
    let project = c.args.project.now in
    let made : List Entry → List Recipe =
    λ ys. recipes_of (g.L.Linker.links project.links.now) c.args.parent.number (g.T.Texts.text_of project.texts.now) project.layout.now.files c.args.parent.path.now (entries ys) in
    let xs = c.args.standing.now in
    let last : length xs ≤ c.standing.one-index = omega arith in
    c.from.ensures ∙ made_all made xs c.standing.one-index c.standing.all.items (made xs) last refl c.standing.invariant
