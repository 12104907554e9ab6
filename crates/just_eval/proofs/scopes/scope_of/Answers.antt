-- The scope of the outcomes, or why one of them refuses it.
use Rattle.std.proofs.Common.{rules, ◌≡◌, ◌≢◌, length, Ok, Err, sym, ap, ◌∙◌}
use Rattle.just_lang_types.specs.declared.project.LangError.TheVariants.{NoMemory}
use Rattle.just_lang_types.specs.declared.scope.Scope.{Scope}
use Rattle.just_eval_closure.specs.Answers.{Answer, and_then}
use Rattle.just_lang_types.specs.Modules.{assignments_of}
use Rattle.just_eval.specs.Evaluations.{bindings_told, scope_with, scope_told, IsScope}
use Rattle.just_eval.specs.Partial.{outcomes_there}
use Rattle.just_eval.proofs.Only.{scope_only}
use Rattle.just_eval.proofs.Told.{scope_found, scope_refused}
use Rattle.just_eval.proofs.scopes.scope_of.Goals as goal

pub bindings-requires : goal.bindings-requires
bindings-requires c = ap (λ os. length os) c.as_slice-found.ensures.value ∙ c.in_ok-outcomes.ensures.size ∙ ap (λ xs. length xs) (sym c.as_slice-assignments.ensures)

pub returns-in_err-bindings-clause-refused : goal.returns-in_err-bindings-clause-refused
returns-in_err-bindings-clause-refused c =
    let j = c.args.justfile.now in
    let os = outcomes_there c.in_ok-outcomes.outcomes.items in
    let e = c.in_err-bindings.field-0.0 in
    let told : e ≢ NoMemory → bindings_told (assignments_of j) os ≡ Err e =
    λ h. ap (λ xs. bindings_told xs os) (sym c.as_slice-assignments.ensures) ∙ ap (λ ys. bindings_told c.as_slice-assignments.result.now (outcomes_there ys)) (sym c.as_slice-found.ensures.value) ∙ c.in_err-bindings.ensures h in
    let refused : e ≢ NoMemory → IsScope c.args.dotenv.now c.args.environ.now.pairs c.args.overrides.now j (Err e) =
    λ h. scope_refused c.args.dotenv.now c.args.environ.now.pairs c.args.overrides.now j os e c.in_ok-outcomes.ensures.outcomes (told h) in
    search (rules, refused)

pub returns-in_err-bindings-clause-only : goal.returns-in_err-bindings-clause-only
returns-in_err-bindings-clause-only c =
    let j = c.args.justfile.now in
    let os = outcomes_there c.in_ok-outcomes.outcomes.items in
    let e = c.in_err-bindings.field-0.0 in
    let told : e ≢ NoMemory → scope_told (assignments_of j) os ≡ Err e =
    λ h. ap (λ b. and_then b (λ bindings. Ok (scope_with bindings))) (ap (λ xs. bindings_told xs os) (sym c.as_slice-assignments.ensures) ∙ ap (λ ys. bindings_told c.as_slice-assignments.result.now (outcomes_there ys)) (sym c.as_slice-found.ensures.value) ∙ c.in_err-bindings.ensures h) in
    let only : (answer : Answer Scope) → IsScope c.args.dotenv.now c.args.environ.now.pairs c.args.overrides.now j answer → e ≢ NoMemory → answer ≡ Err e =
    λ answer s h. scope_only c.args.dotenv.now c.args.environ.now.pairs c.args.overrides.now j os c.in_ok-outcomes.ensures.only (Err e) answer (told h) s in
    search (rules, only)

pub returns-clause-scope : goal.returns-clause-scope
returns-clause-scope c =
    let j = c.args.justfile.now in
    let os = outcomes_there c.in_ok-outcomes.outcomes.items in
    let told : bindings_told (assignments_of j) os ≡ Ok c.in_ok-bindings.bindings =
    ap (λ xs. bindings_told xs os) (sym c.as_slice-assignments.ensures) ∙ ap (λ ys. bindings_told c.as_slice-assignments.result.now (outcomes_there ys)) (sym c.as_slice-found.ensures.value) ∙ c.in_ok-bindings.ensures in
    scope_found c.args.dotenv.now c.args.environ.now.pairs c.args.overrides.now j os c.in_ok-bindings.bindings c.in_ok-scope.scope c.in_ok-outcomes.ensures.outcomes told c.in_ok-scope.ensures

pub returns-clause-only : goal.returns-clause-only
returns-clause-only c =
    let j = c.args.justfile.now in
    let os = outcomes_there c.in_ok-outcomes.outcomes.items in
    let told : scope_told (assignments_of j) os ≡ Ok c.in_ok-scope.scope =
    ap (λ b. and_then b (λ bindings. Ok (scope_with bindings))) (ap (λ xs. bindings_told xs os) (sym c.as_slice-assignments.ensures) ∙ ap (λ ys. bindings_told c.as_slice-assignments.result.now (outcomes_there ys)) (sym c.as_slice-found.ensures.value) ∙ c.in_ok-bindings.ensures)
    ∙ ap (λ s. Ok s) (sym c.in_ok-scope.ensures) in
    λ answer s. scope_only c.args.dotenv.now c.args.environ.now.pairs c.args.overrides.now j os c.in_ok-outcomes.ensures.only (Ok c.in_ok-scope.scope) answer told s
