-- The first such name by those of the defaults and of what stands behind the parameters.
use Rattle.std.proofs.Common.{◌≡◌, [], ap, ◌∙◌, subst}
use Rattle.just_lang_spots.specs.Spots.{first_spot}
use Rattle.just_lang_rules.proofs.Parts.{joined_two}
use Rattle.just_lang_names.specs.Scopes.{AreParameters, module_scope_of}
use Rattle.just_lang_names.specs.ScopeSpots.{with_parameters, unknown_in_defaults, unknown_behind}
use Rattle.just_lang_names.proofs.ScopeLaws.{behind_is}
use Rattle.just_lang_names.proofs.scopes.first_in_recipe.Goals as goal

pub returns : goal.returns
returns c =
    let n = c.args.names.now in
    let f = c.args.file in
    let r = c.args.recipe.now in
    let set = c.in_ok-parameters.parameters in
    joined_two (unknown_in_defaults (module_scope_of n) f [] r.parameters) (unknown_behind (with_parameters r.parameters (module_scope_of n)) f r)
    c.in_ok-defaults.defaults c.in_ok-behind.behind c.earlier.result c.earlier.ensures
    (c.in_ok-defaults.ensures ∙ ap (λ xs. first_spot (unknown_in_defaults (module_scope_of n) f [] xs)) c.as_slice.ensures)
    (behind_is n set f r c.in_ok-behind.behind (subst (λ xs. AreParameters xs set) c.as_slice-2.ensures c.in_ok-parameters.ensures) c.in_ok-behind.ensures)
