-- The recipe at the place of a name.
use Rattle.std.proofs.Common.{rules, ◌≡◌, Some, None, ◌∙◌}
use Rattle.just_lang_names.specs.HashedPlaces.{hashed_place}
use Rattle.just_lang_names.proofs.LookupLaws.{recipe_from_name}
use Rattle.just_lang_names.proofs.target.recipe_in.Goals as goal

pub returns-in-None-clause-recipe : goal.returns-in-None-clause-recipe
returns-in-None-clause-recipe c =
    let none : None ≡ hashed_place c.args.of_module.now.recipe_places c.args.name.now = search rules in
    recipe_from_name c.args.of_module.now c.args.name.now None none

pub returns-in-Some-clause-recipe : goal.returns-in-Some-clause-recipe
returns-in-Some-clause-recipe c =
    let here : Some c.in-Some.place ≡ hashed_place c.args.of_module.now.recipe_places c.args.name.now = search rules in
    c.recipe_at.ensures.recipe ∙ recipe_from_name c.args.of_module.now c.args.name.now (Some c.in-Some.place) here
