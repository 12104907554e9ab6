-- The values of the recipe's parameters are refused.
use Rattle.std.proofs.Common.{rules, ◌≡◌, ◌≢◌, map, Some, Ok, Err, sym, ap, ◌∙◌}
use Rattle.just_lang_types.specs.declared.project.LangError.TheVariants.{NoMemory}
use Rattle.just_eval_closure.specs.Answers.{each}
use Rattle.just_lang_types.specs.Modules.{recipe_at}
use Rattle.just_eval_closure.specs.Dependencies.{argument, shares, key_of}
use Rattle.just_eval_closure.specs.Entries.{located_of, IsFound}
use Rattle.just_eval_closure.proofs.Keys.{key_values_refused}
use Rattle.just_eval_closure.proofs.request.Request.key_of.Goals as goal

pub returns-in_err-arguments : goal.returns-in_err-arguments
returns-in_err-arguments c =
    let ms = map (λ m. m.now) c.args.self.now.modules.items in
    let scopes = c.args.self.now.scopes.now in
    let from = located_of c.args.from.now in
    let values = c.args.values.now in
    let d = c.args.dependency.now in
    let to = c.in-Some.to in
    let e = c.in_err-arguments.field-0.0 in
    let given = c.in_ok-given.given.items in
    let taken = c.as_slice-3.result.now in
    let is : each (argument scopes from values) d.arguments ≡ Ok given = ap (λ xs. each (argument scopes from values) xs) (sym c.as_slice-exprs.ensures) ∙ c.in_ok-given.ensures.given in
    let found : IsFound scopes (Some to) (recipe_at ms d.path) = c.in-Some.ensures in
    let are : taken ≡ shares to.recipe.now.parameters given = c.as_slice-3.ensures.value ∙ c.in_ok-shares.ensures ∙ ap (λ ps. shares ps c.as_slice-2.result.now) c.as_slice.ensures ∙ ap (λ vs. shares to.recipe.now.parameters vs) c.as_slice-2.ensures.value in
    let refused : e ≢ NoMemory → key_of ms scopes from values d ≡ Err e = λ h. key_values_refused ms scopes from values d to given taken e is found are (c.in_err-arguments.ensures.refused h) in
    search (rules, refused)
