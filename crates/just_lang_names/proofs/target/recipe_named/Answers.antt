-- What the table of a module answers.
use Rattle.std.proofs.Common.{◌≡◌, Some, None, ap, sym, ◌∙◌}
use Rattle.std.specs.Prelude.{slice_get}
use Rattle.std.specs.Option.{option_copied}
use Rattle.just_lang_names.proofs.LookupLaws.{recipe_from, found_in}
use Rattle.just_lang_names.proofs.target.recipe_named.Goals as goal

pub returns-in-None-clause-recipe : goal.returns-in-None-clause-recipe
returns-in-None-clause-recipe c =
    let none : slice_get c.args.names.now.modules.items c.args.number ≡ None = sym c.names_at.ensures ∙ ap option_copied c.in-None.is in
    recipe_from c.args.names.now c.args.number c.args.name.now None c.requires none

pub returns-in-Some-clause-recipe : goal.returns-in-Some-clause-recipe
returns-in-Some-clause-recipe c =
    let here : slice_get c.args.names.now.modules.items c.args.number ≡ Some c.in-Some.of_module.now = sym c.names_at.ensures ∙ ap option_copied c.in-Some.is in
    c.recipe_in.ensures.recipe ∙ recipe_from c.args.names.now c.args.number c.args.name.now (Some c.in-Some.of_module.now) c.requires here

pub returns-in-Some-clause-place : goal.returns-in-Some-clause-place
returns-in-Some-clause-place c =
    let here : slice_get c.args.names.now.modules.items c.args.number ≡ Some c.in-Some.of_module.now = sym c.names_at.ensures ∙ ap option_copied c.in-Some.is in
    found_in c.args.names.now c.args.number c.in-Some.of_module.now c.recipe_in.result here c.recipe_in.ensures.place
