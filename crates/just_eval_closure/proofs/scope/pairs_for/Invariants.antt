-- The pairs are among those that are left.
use Rattle.std.proofs.Common.{◌≡◌, drop, find}
use Rattle.just_lang_types.specs.Keys.{same_path}
use Rattle.just_eval_closure.proofs.scope.pairs_for.Given as goal

abbrev pub invariant-dotenv : goal.invariant-dotenv
invariant-dotenv l =
    find (λ d. same_path d.module l.path) (drop l.of_module-index l.dotenv) ≡ find (λ d. same_path d.module l.path) l.dotenv
