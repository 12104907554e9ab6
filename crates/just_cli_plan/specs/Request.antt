-- What is asked of the sources of a project: a chain of steps from the sources to the plan of a run, or to a refusal.
use Rattle.std.specs.Prelude.{ℕ, ◌≡◌, Bool, List, [], ◌∷◌, zip, map, Option, Some, None, option_map, Result, Ok, Err}
use Rattle.std.specs.Int.NonZero.{non_zero_u64_get}
use Rattle.just_path_text.specs.declared.environ.Environ.{Environ}
use Rattle.just_lang_types.specs.declared.key.Key.{Key}
use Rattle.just_lang_types.specs.declared.node.Closure.{Closure}
use Rattle.just_lang_types.specs.declared.node.Node.{Node}
use Rattle.just_lang_types.specs.declared.project.Justfile.{Justfile}
use Rattle.just_lang_types.specs.declared.project.LangError.{LangError}
use Rattle.just_lang_types.specs.declared.scope.DotenvOf.{DotenvOf}
use Rattle.just_lang_types.specs.declared.scope.Scopes.{Scopes}
use Rattle.just_lang_types.specs.declared.source.Source.{Source}
use Rattle.just_eval_closure.specs.Answers.{Answer, and_then}
use Rattle.just_lang_types.specs.Modules.{AreModules}
use Rattle.just_lang.specs.Projects.{IsFirstError}
use Rattle.just_lang.specs.Assembled.{IsJustfileOfSources}
use Rattle.just_eval.specs.Evaluations.{IsEvaluation}
use Rattle.just_eval_words.specs.Invocations.{Invokes, within_one}
use Rattle.just_eval_closure.specs.Closures.{IsClosureOf}
use Rattle.just_eval_closure.specs.Visits.{Visits}
use Rattle.just_lang_types.specs.declared.unstable_feature.UnstableFeature.{UnstableFeature}
use Rattle.just_eval_closure.specs.AskedClosures.{around_of}
use Rattle.just_exec.specs.declared.plan_error.PlanError.{PlanError}
use Rattle.just_exec.specs.declared.node_plan.NodePlan.{NodePlan}
use Rattle.just_sched_history.specs.declared.plan.Plan.{Plan}
use Rattle.just_host_record.specs.World.{World}
use Rattle.just_env.specs.Captures.{Capture}
use Rattle.just_exec.specs.Refusals.{error_of_lang}
use Rattle.just_exec.specs.declared.error.Error.{Error}
use Rattle.just_exec.specs.declared.error.Error.TheVariants as error
use Rattle.just_cli_plan.specs.Features.{unstable_feature}
use Rattle.just_cli_plan.specs.Pairs.{LoadsPairs}
use Rattle.just_cli_plan.specs.Planned.{planned, messages_of, plans_in, error_of_plan}
use Rattle.just_cli_plan.specs.Steps.{Then}
use Rattle.just_cli_plan.specs.declared.wanted.Wanted.{Wanted}

-- ---- what is known behind each step

-- the sources of the project
pub record SourcesRequest : Type 0 where
  pub wanted : Wanted
  pub environ : Environ
  pub sources : List Source

-- its justfile, and the modules within it, each before those within it
pub record ProjectRequest : Type 0 where
  pub wanted : Wanted
  pub environ : Environ
  pub justfile : Justfile
  pub modules : List Justfile

-- the dotenv pairs of each module
pub record LoadedRequest : Type 0 where
  pub wanted : Wanted
  pub environ : Environ
  pub justfile : Justfile
  pub modules : List Justfile
  pub dotenv : List DotenvOf

-- the values of its variables
pub record ScopesRequest : Type 0 where
  pub wanted : Wanted
  pub justfile : Justfile
  pub modules : List Justfile
  pub scopes : Scopes

-- the keys that are to be run
pub record KeysRequest : Type 0 where
  pub wanted : Wanted
  pub modules : List Justfile
  pub scopes : Scopes
  pub keys : List Key

-- their closure
pub record ClosureRequest : Type 0 where
  pub wanted : Wanted
  pub modules : List Justfile
  pub scopes : Scopes
  pub closure : Closure

-- the nodes of a plan with what is planned for each, which of them are its invocations, the job limit, if there is one, and of each node
-- whether the message of its exit code is told
pub record Outline : Type 0 where
  pub nodes : List (Node × NodePlan)
  pub invocations : List ℕ
  pub jobs : Option ℕ
  pub messages : List Bool

abbrev pub outline_of : Plan → Option ℕ → List Bool → Outline
outline_of p jobs messages = record { nodes = map planned p.nodes; invocations = p.invocations; jobs = jobs; messages = messages }

-- ---- the steps, in their order

-- the sources make that justfile, with these modules within it; or they break a rule
abbrev pub AssemblesJustfile : SourcesRequest → Result ProjectRequest Error → Type 0
AssemblesJustfile s (Ok p) = (p.wanted ≡ s.wanted) × (p.environ ≡ s.environ) × IsJustfileOfSources s.sources s.environ.pairs p.justfile × AreModules (p.justfile ∷ []) p.modules
AssemblesJustfile s (Err e) = (l : LangError) × IsFirstError s.sources s.environ.pairs l × (e ≡ error_of_lang l)

-- no unstable feature is used where none is allowed
abbrev pub ChecksFeatures : ProjectRequest → Result ProjectRequest Error → Type 0
ChecksFeatures p (Ok q) = (unstable_feature p.wanted.unstable p.modules ≡ None) × (q ≡ p)
ChecksFeatures p (Err e) = (u : UnstableFeature) × (unstable_feature p.wanted.unstable p.modules ≡ Some u) × (e ≡ error.UnstableFeature u)

-- The modules have these dotenv pairs, for which these children were run to their end; or the first of them that is refused is told. Over a host that tells no
-- world files may hold anything.
abbrev pub LoadsDotenv : Option World → List Capture → ProjectRequest → Result LoadedRequest Error → Type 0
LoadsDotenv told cs p (Ok q) =
    (q.wanted ≡ p.wanted) × (q.environ ≡ p.environ) × (q.justfile ≡ p.justfile) × (q.modules ≡ p.modules) × LoadsPairs told p.wanted p.environ p.justfile cs (Ok q.dotenv)
LoadsDotenv told cs p (Err e) = LoadsPairs told p.wanted p.environ p.justfile cs (Err e)

-- the variables have these values; or one is overridden that isn't there, or has none
abbrev pub EvaluatesVariables : LoadedRequest → Result ScopesRequest Error → Type 0
EvaluatesVariables p (Ok s) =
    (s.wanted ≡ p.wanted) × (s.justfile ≡ p.justfile) × (s.modules ≡ p.modules) × IsEvaluation p.modules p.dotenv p.environ p.wanted.overrides (Ok s.scopes)
EvaluatesVariables p (Err e) = (l : LangError) × IsEvaluation p.modules p.dotenv p.environ p.wanted.overrides (Err l) × (e ≡ error_of_lang l)

-- what the words ask for, where one recipe alone may be wanted
abbrev pub AsksKeys : ScopesRequest → Answer (List Key) → Type 0
AsksKeys s answer = (asked : Answer (List Key)) × Invokes s.modules s.scopes s.justfile s.wanted.words asked × (answer ≡ and_then asked (within_one s.wanted.one))

-- the words ask for these keys; or for none
abbrev pub InvokesKeys : ScopesRequest → Result KeysRequest Error → Type 0
InvokesKeys s (Ok k) = (k.wanted ≡ s.wanted) × (k.modules ≡ s.modules) × (k.scopes ≡ s.scopes) × AsksKeys s (Ok k.keys)
InvokesKeys s (Err e) = (l : LangError) × AsksKeys s (Err l) × (e ≡ error_of_lang l)

-- this is the closure of the keys; or a visit of it is refused
abbrev pub ClosesKeys : KeysRequest → Result ClosureRequest Error → Type 0
ClosesKeys k (Ok c) = (c.wanted ≡ k.wanted) × (c.modules ≡ k.modules) × (c.scopes ≡ k.scopes) × IsClosureOf (around_of k.wanted.no_deps k.modules k.scopes) k.keys c.closure
ClosesKeys k (Err e) = (l : LangError) × Visits (around_of k.wanted.no_deps k.modules k.scopes) (Ok []) None k.keys (Err l) × (e ≡ error_of_lang l)

-- each node of the closure has what its recipe's body has to run, and the cache by which the body may be skipped; or one of these is refused
abbrev pub MakesPlan : ClosureRequest → Result Outline Error → Type 0
MakesPlan c (Ok p) =
    (plans : List NodePlan) × (plans_in c.wanted.flags c.wanted.cache_folder c.modules c.scopes c.closure ≡ Ok plans)
    × (p ≡ record { nodes = zip c.closure.nodes plans; invocations = c.closure.invocations; jobs = option_map non_zero_u64_get c.wanted.jobs; messages = messages_of c.modules c.closure.nodes })
MakesPlan c (Err e) = (f : PlanError) × (plans_in c.wanted.flags c.wanted.cache_folder c.modules c.scopes c.closure ≡ Err f) × (e ≡ error_of_plan f)

-- ---- the chain

-- from the sources to the justfile
abbrev pub FindsProject : SourcesRequest → Result ProjectRequest Error → Type 0
FindsProject = Then AssemblesJustfile ChecksFeatures

-- the steps behind the values of the variables, and behind the dotenv pairs
abbrev pub PlansKeys : ScopesRequest → Result Outline Error → Type 0
PlansKeys = Then InvokesKeys (Then ClosesKeys MakesPlan)

abbrev pub PlansProject : LoadedRequest → Result Outline Error → Type 0
PlansProject = Then EvaluatesVariables PlansKeys

-- the steps behind the project; its dotenv pairs are loaded over a host that tells this world, if it tells one, with these children
abbrev pub PlansLoaded : Option World → List Capture → ProjectRequest → Result Outline Error → Type 0
PlansLoaded told cs = Then (LoadsDotenv told cs) PlansProject

-- all steps; where there is no project, no child is run
pub data PlansSources (told : Option World) (cs : List Capture) (s : SourcesRequest) (r : Result Outline Error) : Type 0 where
  no_project : (e : Error) → FindsProject s (Err e) → cs ≡ [] → r ≡ Err e → PlansSources told cs s r
  of_project : (p : ProjectRequest) → FindsProject s (Ok p) → PlansLoaded told cs p r → PlansSources told cs s r
