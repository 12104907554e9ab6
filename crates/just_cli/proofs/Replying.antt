-- The reply of a project, from what its steps answered.
use Rattle.std.proofs.Common.{◌≡◌, ◌∙◌, inl, inr, ℕ, List, [], ◌∷◌, Option, Some, None, Ok, Err, refl, sym, ap, subst}
use Rattle.just_lang_types.specs.declared.project.Justfile.{Justfile}
use Rattle.just_lang_types.specs.declared.scope.Scopes.{Scopes}
use Rattle.just_lang_types.specs.declared.scope.DotenvOf.{DotenvOf}
use Rattle.just_lang_types.specs.Modules.{AreModules}
use Rattle.just_config.specs.declared.config.Config.{Config}
use Rattle.just_exec.specs.declared.error.Error.{Error}
use Rattle.just_cli_plan.specs.Own.{OrMemory}
use Rattle.just_lang_types.specs.declared.project.LangError.{LangError}
use Rattle.just_eval.specs.Evaluations.{IsEvaluation}
use Rattle.just_exec.specs.Refusals.{error_of_lang}
use Rattle.just_cli_plan.specs.Request.{LoadedRequest, ScopesRequest, Outline, PlansKeys}
use Rattle.just_cli_plan.specs.Steps.{stops, goes_on}
use Rattle.just_cli_texts.specs.declared.printed.Printed.{Printed}
use Rattle.just_cli_texts.specs.Defaults.{listed_by_default, ListsLaid}
use Rattle.just_cli_texts.specs.Laid.{LaidRequest}
use Rattle.just_cli.specs.Replies.{Reply, Replies, RepliesLoaded}

module _ (c : Config) (q : LaidRequest) (scopes : Scopes) where
  abbrev behind : List Justfile → ScopesRequest
  behind modules = record { wanted = q.wanted; justfile = q.laid.justfile; modules = modules; scopes = scopes }

  -- what was found of these words, by whichever list of the modules
  abbrev FoundSo : List (List ℕ) → Option (List (List ℕ)) → Type 0
  FoundSo seen o = (modules : List Justfile) → AreModules (q.laid.justfile ∷ []) modules → o ≡ listed_by_default c.default_list modules q.laid.justfile seen

  module _ (seen : List (List ℕ)) (same : seen ≡ q.wanted.words) (o : Option (List (List ℕ))) (found : FoundSo seen o) where
    listed_as : (x : Option (List (List ℕ))) → o ≡ x → (modules : List Justfile) → AreModules (q.laid.justfile ∷ []) modules → listed_by_default c.default_list modules q.laid.justfile q.wanted.words ≡ x
    listed_as x is modules are = ap (λ (ws : List (List ℕ)). listed_by_default c.default_list modules q.laid.justfile ws) (sym same) ∙ (sym (found modules are) ∙ is)

    -- a module is listed
    module _ (names given : List (List ℕ)) (is : o ≡ Some names) (at : given ≡ names) where
      pub lists_so : (p : Printed) → ListsLaid q.environ.pairs c q.laid given (Ok p) → (modules : List Justfile) → AreModules (q.laid.justfile ∷ []) modules → Replies c q (behind modules) (Ok (Reply.lists p))
      lists_so p lists modules are = Replies.by_list names (Ok p) (listed_as (Some names) is modules are) (subst (λ (ns : List (List ℕ)). ListsLaid q.environ.pairs c q.laid ns (Ok p)) at lists) refl

      pub unlisted_so : (e : Error) → OrMemory (λ x. ListsLaid q.environ.pairs c q.laid given (Err x)) e → OrMemory (λ x. (modules : List Justfile) → AreModules (q.laid.justfile ∷ []) modules → Replies c q (behind modules) (Err x)) e
      unlisted_so e (inl wants) = inl wants
      unlisted_so e (inr lists) = inr (λ modules are. Replies.by_list names (Err e) (listed_as (Some names) is modules are) (subst (λ (ns : List (List ℕ)). ListsLaid q.environ.pairs c q.laid ns (Err e)) at lists) refl)

    -- none is
    module _ (none : o ≡ None) where
      pub plans_so : (x : Reply) → ((modules : List Justfile) → AreModules (q.laid.justfile ∷ []) modules → (o : Outline) × PlansKeys (behind modules) (Ok o) × (x ≡ Reply.runs o)) → (modules : List Justfile) → AreModules (q.laid.justfile ∷ []) modules
          → Replies c q (behind modules) (Ok x)
      plans_so x plans modules are = let k = plans modules are in Replies.by_plan (Ok k.0) (listed_as None none modules are) k.1 (ap (λ (y : Reply). Ok y) k.2)

      pub unplanned_so : (e : Error) → OrMemory (λ x. (modules : List Justfile) → AreModules (q.laid.justfile ∷ []) modules → PlansKeys (behind modules) (Err x)) e
          → OrMemory (λ x. (modules : List Justfile) → AreModules (q.laid.justfile ∷ []) modules → Replies c q (behind modules) (Err x)) e
      unplanned_so e (inl wants) = inl wants
      unplanned_so e (inr plans) = inr (λ modules are. Replies.by_plan (Err e) (listed_as None none modules are) (plans modules are) refl)

-- ---- behind the dotenv pairs

module _ (c : Config) (q : LaidRequest) (dotenv : List DotenvOf) where
  abbrev loaded : List Justfile → LoadedRequest
  loaded modules = record { wanted = q.wanted; environ = q.environ; justfile = q.laid.justfile; modules = modules; dotenv = dotenv }

  pub no_values : (e : Error) → OrMemory (λ x. (l : LangError) × ((modules : List Justfile) → AreModules (q.laid.justfile ∷ []) modules → IsEvaluation modules dotenv q.environ q.wanted.overrides (Err l)) × (x ≡ error_of_lang l)) e
      → OrMemory (λ x. (modules : List Justfile) → AreModules (q.laid.justfile ∷ []) modules → RepliesLoaded c q (loaded modules) (Err x)) e
  no_values e (inl wants) = inl wants
  no_values e (inr (l, refused, is)) = inr (λ modules are. stops e (l, refused modules are, is) refl)

  module _ (scopes : Scopes) (valued : (modules : List Justfile) → AreModules (q.laid.justfile ∷ []) modules → IsEvaluation modules dotenv q.environ q.wanted.overrides (Ok scopes)) where
    pub behind_values : (x : Reply) → ((modules : List Justfile) → AreModules (q.laid.justfile ∷ []) modules → Replies c q (behind c q scopes modules) (Ok x))
        → (modules : List Justfile) → AreModules (q.laid.justfile ∷ []) modules → RepliesLoaded c q (loaded modules) (Ok x)
    behind_values x replies modules are = goes_on (behind c q scopes modules) (refl, refl, refl, valued modules are) (replies modules are)

    pub refused_behind : (e : Error) → OrMemory (λ x. (modules : List Justfile) → AreModules (q.laid.justfile ∷ []) modules → Replies c q (behind c q scopes modules) (Err x)) e
        → OrMemory (λ x. (modules : List Justfile) → AreModules (q.laid.justfile ∷ []) modules → RepliesLoaded c q (loaded modules) (Err x)) e
    refused_behind e (inl wants) = inl wants
    refused_behind e (inr replies) = inr (λ modules are. goes_on (behind c q scopes modules) (refl, refl, refl, valued modules are) (replies modules are))
