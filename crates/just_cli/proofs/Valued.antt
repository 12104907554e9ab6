-- What is printed of the values of variables.
use Rattle.std.proofs.Common.{◌≡◌, ℕ, List, [], ◌∷◌, Ok, sym, subst}
use Rattle.just_lang_types.specs.declared.project.Justfile.{Justfile}
use Rattle.just_lang_types.specs.declared.scope.DotenvOf.{DotenvOf}
use Rattle.just_lang_types.specs.declared.scope.Scopes.{Scopes}
use Rattle.just_lang_types.specs.Modules.{AreModules}
use Rattle.just_config.specs.declared.config.Config.{Config}
use Rattle.just_eval.specs.Evaluations.{IsEvaluation}
use Rattle.just_cli_plan.specs.Request.{LoadedRequest, EvaluatesVariables}
use Rattle.just_cli_plan.specs.Steps.{Then}
use Rattle.just_cli_texts.specs.declared.printed.Printed.{Printed}
use Rattle.just_cli_texts.specs.Evaluated.{names_of_words, format_of, EvaluatesNames}
use Rattle.just_cli_texts.specs.Laid.{LaidRequest}
use Rattle.just_cli_texts.specs.Prints.{alone}
use Rattle.just_cli.specs.declared.task.Other.TheVariants as no_run
use Rattle.just_cli.specs.Commands.{EvaluatesIt}
use Rattle.just_cli.proofs.Commanding.{evaluates_so}

module _ (c : Config) (q : LaidRequest) (dotenv : List DotenvOf) (scopes : Scopes) where
  abbrev ByAll : (List Justfile → Type 0) → Type 0
  ByAll holds = (modules : List Justfile) → AreModules (q.laid.justfile ∷ []) modules → holds modules

  abbrev loaded : List Justfile → LoadedRequest
  loaded modules = record { wanted = q.wanted; environ = q.environ; justfile = q.laid.justfile; modules = modules; dotenv = dotenv }

  abbrev Shows : Printed → List Justfile → Type 0
  Shows p modules = Then EvaluatesVariables (EvaluatesIt c) (loaded modules) (Ok (no_run.Show p))

  pub evaluates_shown : ByAll (λ modules. IsEvaluation modules dotenv q.environ q.wanted.overrides (Ok scopes)) → (text : List ℕ) (p : Printed) → p ≡ alone text
      → ByAll (λ modules. EvaluatesNames (format_of c) modules scopes q.laid.justfile (names_of_words q.wanted.words) (Ok text)) → ByAll (λ modules. Shows p modules)
  evaluates_shown valued text p is names = subst (λ (z : Printed). ByAll (λ modules. Shows z modules)) (sym is) (evaluates_so c q dotenv scopes valued text names)
