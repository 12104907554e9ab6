-- The chain of a request, from what its calls answered.
use Rattle.std.proofs.Common.{◌≡◌, ◌≢◌, ◌∙◌, ℕ, inl, inr, Bool, List, [], ◌∷◌, map, zip, Option, Some, None, option_map, Result, Ok, Err, refl, sym, ap, subst}
use Rattle.std.specs.Int.NonZero.{non_zero_u64_get}
use Rattle.just_path_text.specs.declared.environ.Environ.{Environ}
use Rattle.just_lang_types.specs.declared.key.Key.{Key}
use Rattle.just_lang_types.specs.declared.node.Closure.{Closure}
use Rattle.just_lang_types.specs.declared.node.Node.{Node}
use Rattle.just_lang_types.specs.declared.project.Justfile.{Justfile}
use Rattle.just_lang_types.specs.declared.project.LangError.{LangError}
use Rattle.just_lang_types.specs.declared.project.LangError.TheVariants as lang
use Rattle.just_lang_types.specs.declared.scope.DotenvOf.{DotenvOf}
use Rattle.just_lang_types.specs.declared.scope.Override.{Override}
use Rattle.just_lang_types.specs.declared.scope.Scopes.{Scopes}
use Rattle.just_lang_types.specs.declared.source.Source.{Source}
use Rattle.just_eval_closure.specs.Answers.{Answer}
use Rattle.just_lang_types.specs.Modules.{AreModules}
use Rattle.just_lang_types.proofs.Nesting.{same_modules}
use Rattle.just_lang.specs.Projects.{IsFirstError}
use Rattle.just_lang.specs.Assembled.{IsJustfileOfSources}
use Rattle.just_eval.specs.Evaluations.{IsEvaluation}
use Rattle.just_eval_words.specs.Invocations.{Invokes, within_one}
use Rattle.just_eval_closure.specs.Closures.{IsClosureOf}
use Rattle.just_eval_closure.specs.Visits.{Visits}
use Rattle.just_eval_closure.specs.AskedClosures.{around_of}
use Rattle.just_exec.specs.declared.node_plan.NodePlan.{NodePlan}
use Rattle.just_sched_history.specs.declared.plan.Plan.{Plan}
use Rattle.just_exec.specs.Refusals.{error_of_lang}
use Rattle.just_lang_types.specs.declared.unstable_feature.UnstableFeature.{UnstableFeature}
use Rattle.just_exec.specs.declared.error.Error.{Error}
use Rattle.just_exec.specs.declared.error.Error.TheVariants as error
use Rattle.just_cli_plan.specs.Own.{OrMemory}
use Rattle.just_cli_plan.specs.Features.{unstable_feature}
use Rattle.just_cli_plan.specs.Planned.{planned, messages_of, plans_in, RefusesNodes}
use Rattle.just_cli_plan.specs.Request.{SourcesRequest, ProjectRequest, LoadedRequest, ScopesRequest, KeysRequest, ClosureRequest, Outline, outline_of, AsksKeys, FindsProject, MakesPlan, PlansKeys, PlansProject}
use Rattle.just_cli_plan.specs.Steps.{stops, goes_on}
use Rattle.just_cli_plan.specs.declared.wanted.Wanted.{Wanted}
use Rattle.just_cli_plan.proofs.Refusals.{RefusedBy, lang_refused}

-- ---- what is known

abbrev sources_in : Wanted → Environ → List Source → SourcesRequest
sources_in wanted environ sources = record { wanted = wanted; environ = environ; sources = sources }

abbrev project_in : Wanted → Environ → Justfile → List Justfile → ProjectRequest
project_in wanted environ j modules = record { wanted = wanted; environ = environ; justfile = j; modules = modules }

abbrev loaded_in : Wanted → Environ → Justfile → List Justfile → List DotenvOf → LoadedRequest
loaded_in wanted environ j modules dotenv = record { wanted = wanted; environ = environ; justfile = j; modules = modules; dotenv = dotenv }

abbrev scopes_in : Wanted → Justfile → List Justfile → Scopes → ScopesRequest
scopes_in wanted j modules scopes = record { wanted = wanted; justfile = j; modules = modules; scopes = scopes }

abbrev keys_in : Wanted → List Justfile → Scopes → List Key → KeysRequest
keys_in wanted modules scopes keys = record { wanted = wanted; modules = modules; scopes = scopes; keys = keys }

abbrev pub closure_in : Wanted → List Justfile → Scopes → Closure → ClosureRequest
closure_in wanted modules scopes c = record { wanted = wanted; modules = modules; scopes = scopes; closure = c }

abbrev outline_with : List (Node × NodePlan) → List ℕ → Option ℕ → List Bool → Outline
outline_with nodes invocations jobs messages = record { nodes = nodes; invocations = invocations; jobs = jobs; messages = messages }

-- the plan of a run that is wanted so
abbrev pub outline : Wanted → Plan × List Bool → Outline
outline wanted p = outline_of p.0 (option_map non_zero_u64_get wanted.jobs) p.1

-- ---- behind the closure

module _ (wanted : Wanted) (scopes : Scopes) (c : Closure) where
  -- a closure of whose nodes each is planned
  module _ (ms : List Justfile) where
    nodes_planned : (p : Plan × List Bool) → (plans : List NodePlan) × (plans_in wanted.flags wanted.cache_folder ms scopes c ≡ Ok plans) × (map planned p.0.nodes ≡ zip c.nodes plans)
        → p.0.invocations ≡ c.invocations → p.1 ≡ messages_of ms c.nodes → MakesPlan (closure_in wanted ms scopes c) (Ok (outline wanted p))
    nodes_planned p plans invocations messages =
        let jobs = option_map non_zero_u64_get wanted.jobs in
        let same : outline wanted p ≡ outline_with (zip c.nodes plans.0) c.invocations jobs (messages_of ms c.nodes) =
        ap (λ (nodes : List (Node × NodePlan)). outline_with nodes p.0.invocations jobs p.1) plans.2
        ∙ ap (λ (numbers : List ℕ). outline_with (zip c.nodes plans.0) numbers jobs p.1) invocations
        ∙ ap (λ (told : List Bool). outline_with (zip c.nodes plans.0) c.invocations jobs told) messages in
        (plans.0, plans.1, same)

    pub closure_planned : (folder : List ℕ) → folder ≡ wanted.cache_folder → (p : Plan × List Bool)
        → (plans : List NodePlan) × (plans_in wanted.flags folder ms scopes c ≡ Ok plans) × (map planned p.0.nodes ≡ zip c.nodes plans)
        → p.0.invocations ≡ c.invocations → p.1 ≡ messages_of ms c.nodes → MakesPlan (closure_in wanted ms scopes c) (Ok (outline wanted p))
    closure_planned folder at p plans invocations messages =
        nodes_planned p (plans.0, subst (λ f. plans_in wanted.flags f ms scopes c ≡ Ok plans.0) at plans.1, plans.2) invocations messages

    pub closure_refused : (folder : List ℕ) → folder ≡ wanted.cache_folder → (e : Error) → OrMemory (λ x. RefusesNodes wanted.flags folder ms scopes c x) e
        → OrMemory (λ x. MakesPlan (closure_in wanted ms scopes c) (Err x)) e
    closure_refused folder at e (inl wants) = inl wants
    closure_refused folder at e (inr why) = inr (subst (λ f. RefusesNodes wanted.flags f ms scopes c e) at why)

-- the modules of a justfile are one list, so what holds of those that a request found holds of all
module _ (j : Justfile) (ms : List Justfile) (are : AreModules (j ∷ []) ms) (seen scopes : Scopes) (same : seen ≡ scopes) where
  pub in_all : (holds : List Justfile → Scopes → Type 0) → holds ms seen → (modules : List Justfile) → AreModules (j ∷ []) modules → holds modules scopes
  in_all holds h modules others = subst (λ xs. holds xs scopes) (same_modules (j ∷ []) ms modules are others) (subst (λ s. holds ms s) same h)

  pub or_in_all : (holds : List Justfile → Scopes → Error → Type 0) (e : Error) → OrMemory (λ x. holds ms seen x) e → OrMemory (λ x. (modules : List Justfile) → AreModules (j ∷ []) modules → holds modules scopes x) e
  or_in_all holds e (inl wants) = inl wants
  or_in_all holds e (inr h) = inr (in_all (λ xs s. holds xs s e) h)

-- ---- behind the values of the variables

module _ (wanted : Wanted) (j : Justfile) (scopes : Scopes) where
  -- an answer behind the values, in any list of the modules
  abbrev PlansAll : Result Outline Error → Type 0
  PlansAll r = (modules : List Justfile) → AreModules (j ∷ []) modules → PlansKeys (scopes_in wanted j modules scopes) r

  abbrev AsksAll : Answer (List Key) → Type 0
  AsksAll answer = (modules : List Justfile) → AreModules (j ∷ []) modules → AsksKeys (scopes_in wanted j modules scopes) answer

  -- what the words ask for, of one recipe alone where that is wanted
  module _ (words : List (List ℕ)) (same_words : words ≡ wanted.words) where
    pub asked_within : (asked : List Key) (answer : Answer (List Key)) → ((modules : List Justfile) → AreModules (j ∷ []) modules → Invokes modules scopes j words (Ok asked))
        → answer ≡ within_one wanted.one asked → AsksAll answer
    asked_within asked answer invokes is modules are = (Ok asked, subst (λ ws. Invokes modules scopes j ws (Ok asked)) same_words (invokes modules are), is)

    pub asked_none : (l : LangError) → (l ≢ lang.NoMemory → (modules : List Justfile) → AreModules (j ∷ []) modules → Invokes modules scopes j words (Err l))
        → l ≢ lang.NoMemory → AsksAll (Err l)
    asked_none l invokes not modules are = (Err l, subst (λ ws. Invokes modules scopes j ws (Err l)) same_words (invokes not modules are), refl)

  keys_stop : (e : Error) → OrMemory (RefusedBy (λ l. AsksAll (Err l))) e → OrMemory (λ x. PlansAll (Err x)) e
  keys_stop e (inl wants) = inl wants
  keys_stop e (inr why) = inr (λ modules are. stops e (why.0, why.1 modules are, why.2) refl)

  -- the words ask for no keys
  pub keys_refused : (l : LangError) → (l ≢ lang.NoMemory → AsksAll (Err l)) → (e : Error) → e ≡ error_of_lang l → OrMemory (λ x. PlansAll (Err x)) e
  keys_refused l why e is = keys_stop e (lang_refused (λ m. AsksAll (Err m)) l why e is)

  module _ (asked : List Key) (asks_them : AsksAll (Ok asked)) (keys : List Key) (same_keys : keys ≡ asked) where
    asks : AsksAll (Ok keys)
    asks = subst (λ ks. AsksAll (Ok ks)) (sym same_keys) asks_them

    abbrev VisitsAll : LangError → Type 0
    VisitsAll l = (modules : List Justfile) → AreModules (j ∷ []) modules → Visits (around_of wanted.no_deps modules scopes) (Ok []) None keys (Err l)

    visits_stop : (e : Error) → OrMemory (RefusedBy VisitsAll) e → OrMemory (λ x. PlansAll (Err x)) e
    visits_stop e (inl wants) = inl wants
    visits_stop e (inr why) = inr (λ modules are. goes_on (keys_in wanted modules scopes keys) (refl, refl, refl, asks modules are) (stops e (why.0, why.1 modules are, why.2) refl))

    -- their closure is refused
    pub visits_refused : (l : LangError) → (l ≢ lang.NoMemory → VisitsAll l) → (e : Error) → e ≡ error_of_lang l → OrMemory (λ x. PlansAll (Err x)) e
    visits_refused l why e is = visits_stop e (lang_refused VisitsAll l why e is)

    module _ (c : Closure) (closes : (modules : List Justfile) → AreModules (j ∷ []) modules → IsClosureOf (around_of wanted.no_deps modules scopes) keys c) where
      -- what the steps behind the closure answer is the answer
      pub closed_plan : (r : Result Outline Error) → ((modules : List Justfile) → AreModules (j ∷ []) modules → MakesPlan (closure_in wanted modules scopes c) r) → PlansAll r
      closed_plan r plans modules are =
          goes_on (keys_in wanted modules scopes keys) (refl, refl, refl, asks modules are)
          (goes_on (closure_in wanted modules scopes c) (refl, refl, refl, closes modules are) (plans modules are))

      pub closed_refused : (e : Error) → OrMemory (λ x. (modules : List Justfile) → AreModules (j ∷ []) modules → MakesPlan (closure_in wanted modules scopes c) (Err x)) e → OrMemory (λ x. PlansAll (Err x)) e
      closed_refused e (inl wants) = inl wants
      closed_refused e (inr plans) = inr (closed_plan (Err e) plans)

-- ---- behind the dotenv pairs

-- a variable has no value
pub values_lost : (j : Justfile) (dotenv loaded : List DotenvOf) → loaded ≡ dotenv → (environ : Environ) (overrides given : List Override) → given ≡ overrides
    → (l : LangError) → (l ≢ lang.NoMemory → (ms : List Justfile) → AreModules (j ∷ []) ms → IsEvaluation ms loaded environ given (Err l)) → (e : Error) → e ≡ error_of_lang l
    → OrMemory (RefusedBy (λ m. (ms : List Justfile) → AreModules (j ∷ []) ms → IsEvaluation ms dotenv environ overrides (Err m))) e
values_lost j dotenv loaded pairs environ overrides given same l why e is =
    lang_refused (λ m. (ms : List Justfile) → AreModules (j ∷ []) ms → IsEvaluation ms dotenv environ overrides (Err m)) l
    (λ not ms are. subst (λ ds. IsEvaluation ms ds environ overrides (Err l)) pairs (subst (λ os. IsEvaluation ms loaded environ os (Err l)) same (why not ms are))) e is

module _ (wanted : Wanted) (environ : Environ) (j : Justfile) (dotenv : List DotenvOf) where
  -- an answer behind the dotenv pairs, in any list of the modules
  abbrev PlansLoaded : Result Outline Error → Type 0
  PlansLoaded r = (modules : List Justfile) → AreModules (j ∷ []) modules → PlansProject (loaded_in wanted environ j modules dotenv) r

  -- a variable has no value
  pub values_refused : (e : Error) → OrMemory (RefusedBy (λ l. (ms : List Justfile) → AreModules (j ∷ []) ms → IsEvaluation ms dotenv environ wanted.overrides (Err l))) e → OrMemory (λ x. PlansLoaded (Err x)) e
  values_refused e (inl wants) = inl wants
  values_refused e (inr why) = inr (λ modules are. stops e (why.0, why.1 modules are, why.2) refl)

  module _ (scopes : Scopes) (evaluates : (ms : List Justfile) → AreModules (j ∷ []) ms → IsEvaluation ms dotenv environ wanted.overrides (Ok scopes)) where
    -- what the steps behind the values answer is the answer
    pub valued_plan : (r : Result Outline Error) → ((ms : List Justfile) → AreModules (j ∷ []) ms → PlansKeys (scopes_in wanted j ms scopes) r) → PlansLoaded r
    valued_plan r plans modules are = goes_on (scopes_in wanted j modules scopes) (refl, refl, refl, evaluates modules are) (plans modules are)

    pub valued_refused : (e : Error) → OrMemory (λ x. (ms : List Justfile) → AreModules (j ∷ []) ms → PlansKeys (scopes_in wanted j ms scopes) (Err x)) e → OrMemory (λ x. PlansLoaded (Err x)) e
    valued_refused e (inl wants) = inl wants
    valued_refused e (inr plans) = inr (valued_plan (Err e) plans)

-- ---- behind the sources

-- no module of a justfile with these modules uses an unstable feature
pub stable_all : (j : Justfile) (ms : List Justfile) → AreModules (j ∷ []) ms → (allowed : Bool) → unstable_feature allowed ms ≡ None → (modules : List Justfile) → AreModules (j ∷ []) modules → unstable_feature allowed modules ≡ None
stable_all j ms are allowed stable modules others = subst (λ xs. unstable_feature allowed xs ≡ None) (same_modules (j ∷ []) ms modules are others) stable

-- one does
pub feature_told : (j : Justfile) (ms : List Justfile) → AreModules (j ∷ []) ms → (allowed : Bool) (e : Error) → (u : UnstableFeature) × (unstable_feature allowed ms ≡ Some u) × (e ≡ error.UnstableFeature u)
    → OrMemory (λ x. (modules : List Justfile) × AreModules (j ∷ []) modules × (u : UnstableFeature) × (unstable_feature allowed modules ≡ Some u) × (x ≡ error.UnstableFeature u)) e
feature_told j ms are allowed e told = inr (ms, are, told.0, told.1, told.2)

module _ (wanted : Wanted) (environ : Environ) (sources : List Source) where
  rules_stop : (e : Error) → OrMemory (RefusedBy (λ l. IsFirstError sources environ.pairs l)) e → OrMemory (λ x. FindsProject (sources_in wanted environ sources) (Err x)) e
  rules_stop e (inl wants) = inl wants
  rules_stop e (inr why) = inr (stops e why refl)

  -- they break a rule
  pub rules_refused : (l : LangError) → (l ≢ lang.NoMemory → IsFirstError sources environ.pairs l) → (e : Error) → e ≡ error_of_lang l
      → OrMemory (λ x. FindsProject (sources_in wanted environ sources) (Err x)) e
  rules_refused l why e is = rules_stop e (lang_refused (λ m. IsFirstError sources environ.pairs m) l why e is)

  module _ (j : Justfile) (made : IsJustfileOfSources sources environ.pairs j) where
    -- a module of their justfile uses an unstable feature
    pub features_refused : (e : Error)
        → OrMemory (λ x. (modules : List Justfile) × AreModules (j ∷ []) modules × (u : UnstableFeature) × (unstable_feature wanted.unstable modules ≡ Some u) × (x ≡ error.UnstableFeature u)) e
        → OrMemory (λ x. FindsProject (sources_in wanted environ sources) (Err x)) e
    features_refused e (inl wants) = inl wants
    features_refused e (inr why) = inr (goes_on (project_in wanted environ j why.0) (refl, refl, made, why.1) (why.2, why.3, why.4))

    -- none does
    pub project_found : ((ms : List Justfile) → AreModules (j ∷ []) ms → unstable_feature wanted.unstable ms ≡ None) → (modules : List Justfile) → AreModules (j ∷ []) modules
        → FindsProject (sources_in wanted environ sources) (Ok (project_in wanted environ j modules))
    project_found stable modules are = goes_on (project_in wanted environ j modules) (refl, refl, made, are) (stable modules are, refl)
