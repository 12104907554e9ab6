-- What evaluating a project answers.
use Rattle.std.proofs.Common.{◌≡◌, ◌≢◌, ℕ, List, [], ◌∷◌, map, Ok, Err, refl, sym, subst}
use Rattle.just_path_text.specs.declared.environ.Environ.{Environ}
use Rattle.just_lang_types.specs.declared.recipe.Modulepath.{Modulepath}
use Rattle.just_lang_types.specs.declared.scope.DotenvOf.{DotenvOf}
use Rattle.just_lang_types.specs.declared.scope.Override.{Override}
use Rattle.just_lang_types.specs.declared.scope.Scope.{Scope}
use Rattle.just_lang_types.specs.declared.project.Justfile.{Justfile}
use Rattle.just_lang_types.specs.declared.project.LangError.{LangError}
use Rattle.just_lang_types.specs.declared.project.LangError.TheVariants as error
use Rattle.just_lang_types.specs.Modules.{AreModules}
use Rattle.just_lang_types.proofs.Nesting.{same_modules}
use Rattle.just_eval.specs.Evaluations.{Evaluates, IsEvaluation}
use Rattle.just_eval.specs.Overrides.{Variable, AreUnknown, variable_text}

module _ (js ms others : List Justfile) (found : AreModules js ms) (are : AreModules js others) (dotenv : List DotenvOf) (environ : Environ) (overrides : List Override) where
  -- the modules are determined
  by_modules : (P : List Justfile → Type 0) → P ms → P others
  by_modules P h = subst P (same_modules js ms others found are) h

  unknown_by : (vs : List Variable) (texts : List (List ℕ)) → vs ≢ [] → AreUnknown ms overrides vs → texts ≡ map variable_text vs → IsEvaluation ms dotenv environ overrides (Err (error.UnknownOverrides texts))
  unknown_by [] texts some unknown is = absurd (some refl)
  unknown_by (v ∷ vs) texts some unknown is = subst (λ ts. IsEvaluation ms dotenv environ overrides (Err (error.UnknownOverrides ts))) (sym is) (IsEvaluation.unknown v vs unknown)

  pub is_unknown : (texts : List (List ℕ)) → ((vs : List Variable) × (vs ≢ []) × AreUnknown ms overrides vs × (texts ≡ map variable_text vs)) → IsEvaluation others dotenv environ overrides (Err (error.UnknownOverrides texts))
  is_unknown texts u = by_modules (λ l. IsEvaluation l dotenv environ overrides (Err (error.UnknownOverrides texts))) (unknown_by u.0 texts u.1 u.2 u.3)

  pub is_known : (scopes : List (Modulepath × Scope)) → AreUnknown ms overrides [] → Evaluates dotenv environ.pairs overrides ms (Ok scopes) → IsEvaluation others dotenv environ overrides (Ok (record { scopes = scopes; dotenv = dotenv; environ = environ }))
  is_known scopes none e = by_modules (λ l. IsEvaluation l dotenv environ overrides (Ok (record { scopes = scopes; dotenv = dotenv; environ = environ }))) (IsEvaluation.known (Ok scopes) none e)

  pub is_refused : (e : LangError) → AreUnknown ms overrides [] → Evaluates dotenv environ.pairs overrides ms (Err e) → IsEvaluation others dotenv environ overrides (Err e)
  is_refused e none refusal = by_modules (λ l. IsEvaluation l dotenv environ overrides (Err e)) (IsEvaluation.known (Err e) none refusal)
