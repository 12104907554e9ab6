-- A project whose variables end has one evaluation.
use Rattle.std.specs.Prelude.{◌≡◌, List, All}
use Rattle.just_path_text.specs.declared.environ.Environ.{Environ}
use Rattle.just_lang_types.specs.declared.project.Justfile.{Justfile}
use Rattle.just_lang_types.specs.declared.scope.DotenvOf.{DotenvOf}
use Rattle.just_lang_types.specs.declared.scope.Override.{Override}
use Rattle.just_lang_types.specs.declared.scope.Scopes.{Scopes}
use Rattle.just_eval_closure.specs.Answers.{Answer}
use Rattle.just_lang_types.specs.Modules.{assignments_of}
use Rattle.just_eval.specs.Evaluations.{IsEvaluation}
use Rattle.just_eval.specs.Uses.{AreEnding}

-- where no variable of the modules leads to itself, two answers of an evaluation are one
abbrev pub EvaluationsAgree : Type 0
EvaluationsAgree = (modules : List Justfile) (dotenv : List DotenvOf) (environ : Environ) (overrides : List Override) (a b : Answer Scopes) → All (λ (m : Justfile). AreEnding (assignments_of m)) modules
    → IsEvaluation modules dotenv environ overrides a → IsEvaluation modules dotenv environ overrides b → a ≡ b
