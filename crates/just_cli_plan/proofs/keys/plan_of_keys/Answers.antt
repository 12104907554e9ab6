-- Each step behind the values goes on from what the one before it found, or its refusal is the answer.
use Rattle.std.proofs.Common.{[], map, None, Ok, Err}
use Rattle.just_eval_closure.specs.Closures.{IsClosureOf}
use Rattle.just_eval_closure.specs.Visits.{Visits}
use Rattle.just_eval_closure.specs.AskedClosures.{around_of}
use Rattle.just_cli_plan.specs.Request.{MakesPlan}
use Rattle.just_cli_plan.proofs.Chain.{closure_in, outline, keys_refused, visits_refused, closed_plan, closed_refused, in_all, or_in_all}
use Rattle.just_cli_plan.proofs.keys.plan_of_keys.Goals as goal

pub closure_within-requires-clause-ends : goal.closure_within-requires-clause-ends
closure_within-requires-clause-ends c = (c.requires (map (λ m. m.now) c.in_ok-request.request.modules.items) c.in_ok-request.ensures.modules).dependencies

pub returns-in-Err-clause-refused : goal.returns-in-Err-clause-refused
returns-in-Err-clause-refused c = keys_refused c.args.wanted.now c.args.justfile.now c.args.scopes.now c.in-Err.error c.in-Err.ensures.refused _ c.from.ensures

pub returns-in-Err-closure_within-clause-refused : goal.returns-in-Err-closure_within-clause-refused
returns-in-Err-closure_within-clause-refused c =
    let w = c.args.wanted.now in
    let all = in_all c.args.justfile.now (map (λ m. m.now) c.in_ok-request.request.modules.items) c.in_ok-request.ensures.modules c.in_ok-request.request.scopes.now c.args.scopes.now c.in_ok-request.ensures.scopes in
    let keys = c.as_slice.result.now in
    let l = c.in-Err-closure_within.error in
    visits_refused w c.args.justfile.now c.args.scopes.now c.in-Ok.keys c.in-Ok.ensures.keys keys c.as_slice.ensures
    l (λ not. all (λ ms s. Visits (around_of w.no_deps ms s) (Ok []) None keys (Err l)) (c.in-Err-closure_within.ensures.refused not)) _ c.from-in-Err-closure_within.ensures

pub returns-in-Ok-plan_of_closure-clause-plan : goal.returns-in-Ok-plan_of_closure-clause-plan
returns-in-Ok-plan_of_closure-clause-plan c =
    let w = c.args.wanted.now in
    let all = in_all c.args.justfile.now (map (λ m. m.now) c.in_ok-request.request.modules.items) c.in_ok-request.ensures.modules c.in_ok-request.request.scopes.now c.args.scopes.now c.in_ok-request.ensures.scopes in
    let keys = c.as_slice.result.now in
    let closed = c.in-Ok-closure_within.closure in
    let made = Ok (outline w c.in-Ok-plan_of_closure.planned) in
    closed_plan w c.args.justfile.now c.args.scopes.now c.in-Ok.keys c.in-Ok.ensures.keys keys c.as_slice.ensures
    closed (all (λ ms s. IsClosureOf (around_of w.no_deps ms s) keys closed) c.in-Ok-closure_within.ensures.closure) made
    (all (λ ms s. MakesPlan (closure_in w ms s closed) made) c.in-Ok-plan_of_closure.ensures.plan)

pub returns-clause-refused : goal.returns-clause-refused
returns-clause-refused c =
    let w = c.args.wanted.now in
    let ms = map (λ m. m.now) c.in_ok-request.request.modules.items in
    let all = in_all c.args.justfile.now ms c.in_ok-request.ensures.modules c.in_ok-request.request.scopes.now c.args.scopes.now c.in_ok-request.ensures.scopes in
    let some = or_in_all c.args.justfile.now ms c.in_ok-request.ensures.modules c.in_ok-request.request.scopes.now c.args.scopes.now c.in_ok-request.ensures.scopes in
    let keys = c.as_slice.result.now in
    let closed = c.in-Ok-closure_within.closure in
    closed_refused w c.args.justfile.now c.args.scopes.now c.in-Ok.keys c.in-Ok.ensures.keys keys c.as_slice.ensures
    closed (all (λ ms s. IsClosureOf (around_of w.no_deps ms s) keys closed) c.in-Ok-closure_within.ensures.closure) _
    (some (λ ms s e. MakesPlan (closure_in w ms s closed) (Err e)) _ c.in-Err-plan_of_closure.ensures.refused)
