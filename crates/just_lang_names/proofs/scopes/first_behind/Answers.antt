-- The first such name by those of the parts.
use Rattle.std.proofs.Common.{◌≡◌, ap, ◌∙◌}
use Rattle.std.specs.List.{flat_map}
use Rattle.just_lang_spots.specs.Spots.{first_spot}
use Rattle.just_lang_rules.proofs.Parts.{joined_four}
use Rattle.just_lang_names.specs.Scopes.{scope_of}
use Rattle.just_lang_names.specs.ScopeSpots.{unknown_in_attribute, unknown_in_dependency, unknown_in_line}
use Rattle.just_lang_names.proofs.scopes.first_behind.Goals as goal

pub returns : goal.returns
returns c =
    let s = scope_of c.args.scope.now in
    let f = c.args.file in
    let r = c.args.recipe.now in
    joined_four (flat_map (unknown_in_attribute s f) r.attributes) (flat_map (unknown_in_dependency s f) r.priors) (flat_map (unknown_in_dependency s f) r.subsequents) (flat_map (unknown_in_line s f) r.body)
    c.in_ok-attributes.attributes c.in_ok-priors.priors c.in_ok-subsequents.subsequents c.in_ok-body.body c.earlier-further.result c.earlier-behind.result c.earlier.result
    c.earlier-further.ensures c.earlier-behind.ensures c.earlier.ensures
    (c.in_ok-attributes.ensures ∙ ap (λ xs. first_spot (flat_map (unknown_in_attribute s f) xs)) c.as_slice.ensures)
    (c.in_ok-priors.ensures ∙ ap (λ xs. first_spot (flat_map (unknown_in_dependency s f) xs)) c.as_slice-2.ensures)
    (c.in_ok-subsequents.ensures ∙ ap (λ xs. first_spot (flat_map (unknown_in_dependency s f) xs)) c.as_slice-3.ensures)
    (c.in_ok-body.ensures ∙ ap (λ xs. first_spot (flat_map (unknown_in_line s f) xs)) c.as_slice-4.ensures)
