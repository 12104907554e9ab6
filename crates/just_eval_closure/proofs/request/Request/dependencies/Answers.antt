-- The keys behind a key are refused.
use Rattle.std.proofs.Common.{rules, ◌≡◌, ◌≢◌, map, Some, Ok, Err, sym, ap, ◌∙◌}
use Rattle.just_lang_types.specs.declared.project.LangError.TheVariants.{NoMemory}
use Rattle.just_eval_closure.specs.Answers.{each}
use Rattle.just_lang_types.specs.Modules.{recipe_at}
use Rattle.just_eval_closure.specs.Dependencies.{key_of, deps}
use Rattle.just_eval_closure.specs.Entries.{located_of, IsFound}
use Rattle.just_eval_closure.proofs.Keys.{deps_subsequents_refused}
use Rattle.just_eval_closure.proofs.request.Request.dependencies.Goals as goal

pub returns-in_err-subsequents : goal.returns-in_err-subsequents
returns-in_err-subsequents c =
    let ms = map (λ m. m.now) c.args.self.now.modules.items in
    let scopes = c.args.self.now.scopes.now in
    let k = c.args.key.now in
    let from = c.in-Some.from in
    let values = c.as_slice-values.result.now in
    let e = c.in_err-subsequents.field-0.0 in
    let ps = c.in_ok-priors.priors in
    let found : IsFound scopes (Some from) (recipe_at ms k.recipe) = c.in-Some.ensures in
    let priors : each (key_of ms scopes (located_of from) k.arguments) from.recipe.now.priors ≡ Ok ps =
    ap (λ vs. each (key_of ms scopes (located_of from) vs) from.recipe.now.priors) (sym c.as_slice-values.ensures) ∙ ap (λ ds. each (key_of ms scopes (located_of from) values) ds) (sym c.as_slice.ensures) ∙ c.in_ok-priors.ensures in
    let refused : e ≢ NoMemory → deps ms scopes k ≡ Err e =
    λ h. deps_subsequents_refused ms scopes k from found ps e priors (ap (λ vs. each (key_of ms scopes (located_of from) vs) from.recipe.now.subsequents) (sym c.as_slice-values.ensures) ∙ ap (λ ds. each (key_of ms scopes (located_of from) values) ds) (sym c.as_slice-2.ensures) ∙ c.in_err-subsequents.ensures h) in
    search (rules, refused)
