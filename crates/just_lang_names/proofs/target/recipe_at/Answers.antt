-- The recipe at a place.
use Rattle.std.proofs.Common.{rules, ◌≡◌, Some, None, ◌∙◌}
use Rattle.std.specs.Prelude.{slice_get}
use Rattle.just_lang_spots.specs.Entries.{entry, entries}
use Rattle.just_lang_names.proofs.LookupLaws.{recipe_from_place, found_of}
use Rattle.just_lang_names.proofs.target.recipe_at.Goals as goal

pub returns-in-None-clause-recipe : goal.returns-in-None-clause-recipe
returns-in-None-clause-recipe c =
    let none : None ≡ slice_get (entries c.args.of_module.now.recipes.items) c.args.place = search rules in
    recipe_from_place c.args.of_module.now c.args.place None none

pub returns-in-Some-clause-recipe : goal.returns-in-Some-clause-recipe
returns-in-Some-clause-recipe c =
    let here : Some (entry c.in-Some.one) ≡ slice_get (entries c.args.of_module.now.recipes.items) c.args.place = search rules in
    c.recipe_of.ensures.recipe ∙ recipe_from_place c.args.of_module.now c.args.place (Some (entry c.in-Some.one)) here

pub returns-in-Some-clause-place : goal.returns-in-Some-clause-place
returns-in-Some-clause-place c =
    let here : Some (entry c.in-Some.one) ≡ slice_get (entries c.args.of_module.now.recipes.items) c.args.place = search rules in
    found_of c.args.of_module.now c.args.place (entry c.in-Some.one) c.recipe_of.result here c.recipe_of.ensures.place
