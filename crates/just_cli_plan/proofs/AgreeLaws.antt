-- The laws of this crate.
use Rattle.std.proofs.Common.{Ok, Err, ap}
use Rattle.std.proofs.lemmas.List.Elements.{recursion_from_All}
use Rattle.just_lang_types.specs.declared.project.Justfile.{Justfile}
use Rattle.just_lang_types.specs.Modules.{assignments_of}
use Rattle.just_eval.specs.Uses.{AreEnding}
use Rattle.just_cli_plan.specs.Loading.{LoadsAgree, RootsAgree}
use Rattle.just_cli_plan.specs.Evaluating.{EvaluationsAgree}
use Rattle.just_cli_plan.specs.Closing.{ClosuresAgree}
use Rattle.just_cli_plan.proofs.OneLoading.{loads_own, one_loading}
use Rattle.just_cli_plan.proofs.OneEvaluation.{one_evaluation}
use Rattle.just_cli_plan.proofs.OneClosure.{one_closure, no_closure_refused, one_refusal}

pub loads_agree : LoadsAgree
loads_agree w environ before paths = loads_own w environ before paths

pub roots_agree : RootsAgree
roots_agree w before root = one_loading w before root

pub evaluations_agree : EvaluationsAgree
evaluations_agree modules dotenv environ overrides a b ends x y =
    one_evaluation modules dotenv environ overrides a b (recursion_from_All (λ (m : Justfile). AreEnding (assignments_of m)) modules ends) x y

pub closures_agree : ClosuresAgree
closures_agree around keys (Ok c) (Ok d) x y = ap (λ z. Ok z) (one_closure around keys c d x y)
closures_agree around keys (Ok c) (Err f) x y = absurd (no_closure_refused around keys c f x y)
closures_agree around keys (Err e) (Ok d) x y = absurd (no_closure_refused around keys d e y x)
closures_agree around keys (Err e) (Err f) x y = ap (λ z. Err z) (one_refusal around keys e f x y)
