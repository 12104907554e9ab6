-- The scope of a module more, or why it is refused.
use Rattle.std.proofs.Common.{rules, ◌≡◌, ◌≢◌, ◌+◌, List, map, Ok, Err, length, ◌≤◌, sym, ap, ◌∙◌, subst, arith}
use Rattle.just_lang_types.specs.declared.project.LangError.TheVariants.{NoMemory}
use Rattle.just_lang_types.specs.declared.recipe.Modulepath.{Modulepath}
use Rattle.just_lang_types.specs.declared.scope.Scope.{Scope}
use Rattle.just_eval.specs.Evaluations.{Evaluates}
use Rattle.just_eval.proofs.Only.{AreInFront, front_end, front_more, front_refused}
use Rattle.just_eval.proofs.Told.{AreEvaluated, refusal_given, ending_at, scopes_end, scopes_more, scopes_refused}
use Rattle.just_eval.proofs.scopes.scopes.Goals as goal

pub scope_of-requires : goal.scope_of-requires
scope_of-requires c = ending_at c.args.modules.now c.modules.module-index c.module-item.result c.modules-test.true c.module-item.is c.requires

pub modules-preserved : goal.modules-preserved
modules-preserved c =
    record {
      evaluated = subst (λ ss. AreEvaluated c.args.dotenv.now c.args.environ.now.pairs c.args.overrides.now c.args.modules.now (c.modules.module-index + 1) ss) (sym c.in_ok-push.ensures.items) (scopes_more c.args.dotenv.now c.args.environ.now.pairs c.args.overrides.now c.args.modules.now c.modules.module-index c.module-item.result c.modules-test.true c.module-item.is c.in_ok-scope.scope c.modules.scopes.items c.in_ok-try_clone.field-0 c.in_ok-scope.ensures.scope c.in_ok-try_clone.ensures c.modules.invariant.evaluated);
      front = subst (λ ss. AreInFront c.args.dotenv.now c.args.environ.now.pairs c.args.overrides.now c.args.modules.now (c.modules.module-index + 1) ss) (sym c.in_ok-push.ensures.items) (front_more c.args.dotenv.now c.args.environ.now.pairs c.args.overrides.now c.args.modules.now c.modules.module-index c.module-item.result c.modules-test.true c.module-item.is c.in_ok-scope.scope c.modules.scopes.items c.in_ok-try_clone.field-0 c.in_ok-scope.ensures.only c.in_ok-try_clone.ensures c.modules.invariant.front);
    }

pub returns-in_err-scope-clause-refused : goal.returns-in_err-scope-clause-refused
returns-in_err-scope-clause-refused c =
    let e = c.in_err-scope.field-0.0 in
    let refused : e ≢ NoMemory → Evaluates c.args.dotenv.now c.args.environ.now.pairs c.args.overrides.now (map (λ m. m.now) c.args.modules.now) (Err e) =
    λ h. scopes_refused c.args.dotenv.now c.args.environ.now.pairs c.args.overrides.now c.args.modules.now c.modules.module-index c.module-item.result c.modules-test.true c.module-item.is e c.modules.scopes.items (c.in_err-scope.ensures.refused h) c.modules.invariant.evaluated in
    search (rules, refused)

pub returns-in_err-scope-clause-only : goal.returns-in_err-scope-clause-only
returns-in_err-scope-clause-only c =
    let e = c.in_err-scope.field-0.0 in
    λ answer evaluated.
    refusal_given answer c.from_residual.result e _ (λ x is. let same : e ≡ x = cc in same)
    (λ h. front_refused c.args.dotenv.now c.args.environ.now.pairs c.args.overrides.now c.args.modules.now c.modules.module-index c.module-item.result c.modules-test.true c.module-item.is e c.modules.scopes.items (λ a s. c.in_err-scope.ensures.only a s h) c.modules.invariant.front answer evaluated)
    c.from_residual.ensures.1

pub returns-clause-scopes : goal.returns-clause-scopes
returns-clause-scopes c =
    let le : length c.args.modules.now ≤ c.modules.module-index = omega arith in
    subst (λ (ss : List (Modulepath × Scope)). Evaluates c.args.dotenv.now c.args.environ.now.pairs c.args.overrides.now (map (λ m. m.now) c.args.modules.now) (Ok ss)) (sym c.from.ensures)
    (scopes_end c.args.dotenv.now c.args.environ.now.pairs c.args.overrides.now c.args.modules.now c.modules.module-index c.modules.scopes.items le c.modules.invariant.evaluated)

pub returns-clause-only : goal.returns-clause-only
returns-clause-only c =
    let le : length c.args.modules.now ≤ c.modules.module-index = omega arith in
    λ answer evaluated.
    front_end c.args.dotenv.now c.args.environ.now.pairs c.args.overrides.now c.args.modules.now c.modules.module-index c.modules.scopes.items le c.modules.invariant.front answer evaluated ∙ ap (λ ss. Ok ss) (sym c.from.ensures)
