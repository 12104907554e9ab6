-- What holds of the modules that a request found, holds of the justfile's modules.
use Rattle.std.proofs.Common.{◌≢◌, List, [], ◌∷◌, map, None, Ok, Err, subst}
use Rattle.just_lang_types.specs.declared.project.Justfile.{Justfile}
use Rattle.just_lang_types.specs.declared.project.LangError.TheVariants.{NoMemory}
use Rattle.just_eval_closure.specs.Closures.{IsClosureOf}
use Rattle.just_eval_closure.specs.Visits.{Visits}
use Rattle.just_eval_closure.proofs.Tasks.{if_err}
use Rattle.just_lang_types.specs.Modules.{AreModules}
use Rattle.just_eval_closure.proofs.Exprs.{if_ok}
use Rattle.just_lang_types.proofs.Nesting.{same_modules}
use Rattle.just_eval_closure.specs.AskedClosures.{around_of}
use Rattle.just_eval_closure.proofs.closing.closure.Goals as goal

pub closure_within-requires-clause-ends : goal.closure_within-requires-clause-ends
closure_within-requires-clause-ends c = c.requires.ends (map (λ m. m.now) c.in_ok-request.request.modules.items) c.in_ok-request.ensures.modules

pub returns-clause-closure : goal.returns-clause-closure
returns-clause-closure c =
    let ms = map (λ m. m.now) c.in_ok-request.request.modules.items in
    let first = c.args.justfile.now ∷ [] in
    let keys = c.args.keys.now in
    if_ok (λ k. IsClosureOf (around_of c.args.no_deps ms c.in_ok-request.request.scopes.now) keys k) (λ k. (modules : List Justfile) → AreModules first modules → IsClosureOf (around_of c.args.no_deps modules c.args.scopes.now) keys k) c.closure_within.result
    (λ k h modules are. subst (λ l. IsClosureOf (around_of c.args.no_deps l c.args.scopes.now) keys k) (same_modules first ms modules c.in_ok-request.ensures.modules are) (subst (λ s. IsClosureOf (around_of c.args.no_deps ms s) keys k) c.in_ok-request.ensures.scopes h))
    c.closure_within.ensures.closure

pub returns-clause-refused : goal.returns-clause-refused
returns-clause-refused c =
    let ms = map (λ m. m.now) c.in_ok-request.request.modules.items in
    let first = c.args.justfile.now ∷ [] in
    let keys = c.args.keys.now in
    if_err (λ e. e ≢ NoMemory → Visits (around_of c.args.no_deps ms c.in_ok-request.request.scopes.now) (Ok []) None keys (Err e)) (λ e. e ≢ NoMemory → (modules : List Justfile) → AreModules first modules → Visits (around_of c.args.no_deps modules c.args.scopes.now) (Ok []) None keys (Err e)) c.closure_within.result
    (λ e h other modules are. subst (λ l. Visits (around_of c.args.no_deps l c.args.scopes.now) (Ok []) None keys (Err e)) (same_modules first ms modules c.in_ok-request.ensures.modules are) (subst (λ s. Visits (around_of c.args.no_deps ms s) (Ok []) None keys (Err e)) c.in_ok-request.ensures.scopes (h other)))
    c.closure_within.ensures.refused
