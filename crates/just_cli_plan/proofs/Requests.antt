-- Each step of a request gives one answer of its own at most, and so does the request.
use Rattle.std.proofs.Common.{◌≡◌, false, true≢false, List, [], ◌∷◌, ◌++◌, zip, Option, Some, None, option_map, Result, Ok, Err, refl, sym, ◌∙◌, ap, subst}
use Rattle.std.specs.Int.NonZero.{non_zero_u64_get}
use Rattle.just_lang_types.specs.declared.error.CompileKind.{CompileKind}
use Rattle.just_lang_types.specs.declared.key.Key.{Key}
use Rattle.just_lang_types.specs.declared.project.Justfile.{Justfile}
use Rattle.just_lang_types.specs.declared.project.LangError.{LangError}
use Rattle.just_lang_types.specs.declared.project.LangError.TheVariants as lang
use Rattle.just_eval_closure.specs.Answers.{Answer, and_then}
use Rattle.just_lang_types.specs.Modules.{AreModules}
use Rattle.just_cli_plan.specs.OneProject.{IsDetermined}
use Rattle.just_cli_plan.proofs.OneProjectLaws.{projects_agree}
use Rattle.just_cli_plan.proofs.AgreeLaws.{evaluations_agree, closures_agree}
use Rattle.just_eval_words.specs.Invocations.{within_one}
use Rattle.just_eval_words.proofs.Agree.{agree}
use Rattle.just_cli_plan.specs.EndingProjects.{End}
use Rattle.just_cli_plan.proofs.EndingLaws.{projects_end}
use Rattle.just_eval_closure.specs.AskedClosures.{around_of}
use Rattle.just_exec.specs.declared.plan_error.PlanError.{PlanError}
use Rattle.just_exec.specs.declared.node_plan.NodePlan.{NodePlan}
use Rattle.just_host_record.specs.World.{World}
use Rattle.just_host_record.specs.declared.entry.HostFault.TheVariants as fault
use Rattle.just_env.specs.declared.env_error.EnvError.{EnvError}
use Rattle.just_env.specs.declared.env_error.EnvError.TheVariants as env
use Rattle.just_env.specs.declared.env_error.OutputError.TheVariants as output
use Rattle.just_env.specs.Agree.{tells_failure}
use Rattle.just_env.specs.Captures.{Capture}
use Rattle.just_env.proofs.Agreed.{dotenv_agrees}
use Rattle.just_exec.specs.Refusals.{error_of_lang, error_of_env}
use Rattle.just_exec.specs.declared.error.Error.{Error}
use Rattle.just_exec.specs.declared.error.Error.TheVariants as error
use Rattle.just_cli_plan.specs.Agree.{TakesOwn}
use Rattle.just_cli_plan.specs.Own.{is_size, is_too_big, is_fault, is_uncaptured, IsOwn}
use Rattle.just_cli_plan.specs.Planned.{messages_of, error_of_plan}
use Rattle.just_cli_plan.specs.Request.{SourcesRequest, ProjectRequest, LoadedRequest, ScopesRequest, KeysRequest, ClosureRequest, Outline, AssemblesJustfile, ChecksFeatures, FindsProject, LoadsDotenv, EvaluatesVariables, AsksKeys, InvokesKeys, ClosesKeys, MakesPlan, PlansKeys, PlansProject, PlansLoaded, PlansSources, no_project, of_project}
use Rattle.just_cli_plan.specs.Steps.{Then, stops, goes_on}
use Rattle.just_cli_plan.proofs.Steps.{GivesOwn, GivesOwnOf, Finds, own_of, own_refusal, same_refusal, same_found, refused_or_found, then_own, then_own_of, finds_then}

-- ---- options and answers

-- an option that holds something holds one thing, and not nothing
held_one : {A : Type 0} (o : Option A) (x y : A) → o ≡ Some x → o ≡ Some y → x ≡ y
held_one o x y p q = let both : Some x ≡ Some y = sym p ∙ q in cc

held_none : {A : Type 0} (o : Option A) (x : A) → o ≡ None → o ≡ Some x → ⊥
held_none o x p q = let both : None ≡ Some x = sym p ∙ q in let no : ⊥ = cc in no

-- an answer is one thing
one_found : {A E : Type 0} (x y : A) → ◌≡◌ {A = Result A E} (Ok x) (Ok y) → x ≡ y
one_found x y is = cc

one_refusal : {A E : Type 0} (e f : E) → ◌≡◌ {A = Result A E} (Err e) (Err f) → e ≡ f
one_refusal e f is = cc

found_or_refused : {A E : Type 0} (x : A) (e : E) → ◌≡◌ {A = Result A E} (Ok x) (Err e) → ⊥
found_or_refused x e is = let no : ⊥ = cc in no

-- ---- from sources to a justfile

-- an error that isn't of a pattern that is too big is determined
determined : (l : LangError) (e : Error) → e ≡ error_of_lang l → is_too_big e ≡ false → IsDetermined l
determined l e is own c at size =
    let told : is_too_big (error_of_lang (lang.Compile c)) ≡ false = subst (λ (x : LangError). is_too_big (error_of_lang x) ≡ false) at (subst (λ (x : Error). is_too_big x ≡ false) is own) in
    true≢false (sym (ap (λ (k : CompileKind). is_size (Some k)) size) ∙ told)

-- sources make one justfile, or break one first rule, but for patterns that are too big
assembles_justfile : GivesOwn AssemblesJustfile
assembles_justfile s (Ok a) (Ok b) p m q n =
    let justfile : a.justfile ≡ b.justfile = projects_agree.justfiles s.sources s.environ.pairs a.justfile b.justfile p.2 q.2 in
    let modules : a.modules ≡ b.modules = projects_agree.modules b.justfile a.modules b.modules (subst (λ (j : Justfile). AreModules (j ∷ []) a.modules) justfile p.3) q.3 in
    ap (λ x. Ok x)
    (ap (λ x. let z : ProjectRequest = record { wanted = x; environ = a.environ; justfile = a.justfile; modules = a.modules } in z) (p.0 ∙ sym q.0)
    ∙ ap (λ x. let z : ProjectRequest = record { wanted = b.wanted; environ = x; justfile = a.justfile; modules = a.modules } in z) (p.1 ∙ sym q.1)
    ∙ ap (λ x. let z : ProjectRequest = record { wanted = b.wanted; environ = b.environ; justfile = x; modules = a.modules } in z) justfile
    ∙ ap (λ x. let z : ProjectRequest = record { wanted = b.wanted; environ = b.environ; justfile = b.justfile; modules = x } in z) modules)
assembles_justfile s (Ok a) (Err f) p m q n = absurd (projects_agree.either s.sources s.environ.pairs a.justfile q.0 p.2 q.1 (determined q.0 f q.2 n.1))
assembles_justfile s (Err e) (Ok b) p m q n = absurd (projects_agree.either s.sources s.environ.pairs b.justfile p.0 q.2 p.1 (determined p.0 e p.2 m.1))
assembles_justfile s (Err e) (Err f) p m q n =
    ap (λ x. Err x)
    (p.2 ∙ ap (λ (l : LangError). error_of_lang l) (projects_agree.errors s.sources s.environ.pairs p.0 q.0 p.1 q.1 (determined p.0 e p.2 m.1) (determined q.0 f q.2 n.1)) ∙ sym q.2)

-- the modules of a justfile that they make come to an end
abbrev pub EndsProject : ProjectRequest → Type 0
EndsProject p = End p.modules

makes_ending : Finds (λ (s : SourcesRequest). Unit {0}) AssemblesJustfile EndsProject
makes_ending s h p made = projects_end s.sources s.environ.pairs p.justfile p.modules made.2 made.3

-- ---- from a justfile to the values of its variables

checks_features : GivesOwn ChecksFeatures
checks_features k (Ok a) (Ok b) p m q n = ap (λ x. Ok x) (p.1 ∙ sym q.1)
checks_features k (Ok a) (Err f) p m q n = absurd (held_none _ q.0 p.0 q.1)
checks_features k (Err e) (Ok b) p m q n = absurd (held_none _ p.0 q.0 p.1)
checks_features k (Err e) (Err f) p m q n = ap (λ x. Err x) (p.2 ∙ ap (λ u. error.UnstableFeature u) (held_one _ p.0 q.0 p.1 q.1) ∙ sym q.2)

keeps_features : Finds EndsProject ChecksFeatures EndsProject
keeps_features k ends found p = subst EndsProject (sym p.1) ends

-- sources make one justfile that uses no unstable feature, or are refused in one way
pub finds_project : GivesOwn FindsProject
finds_project = then_own AssemblesJustfile ChecksFeatures assembles_justfile checks_features

pub finds_ending : Finds (λ (s : SourcesRequest). Unit {0}) FindsProject EndsProject
finds_ending = finds_then (λ (s : SourcesRequest). Unit {0}) EndsProject EndsProject AssemblesJustfile ChecksFeatures makes_ending keeps_features

-- a refusal of dotenv pairs that is determined as the error that tells it
own_of_env : (f : EnvError) → is_fault (error_of_env f) ≡ false → is_uncaptured (error_of_env f) ≡ false → tells_failure f ≡ false
own_of_env env.DotenvRequired calm child = refl
own_of_env (env.Dotenv path line) calm child = refl
own_of_env env.DotenvArgumentsRequireLists calm child = refl
own_of_env (env.DotenvCommand command (output.Code code)) calm child = refl
own_of_env (env.DotenvCommand command (output.Io io)) calm child = child
own_of_env (env.DotenvCommand command (output.Signal number)) calm child = refl
own_of_env (env.DotenvCommand command output.Unknown) calm child = refl
own_of_env (env.DotenvCommand command output.Utf8) calm child = refl
own_of_env (env.Io (fault.Missed m) path) calm child = refl
own_of_env (env.Io (fault.Failed c) path) calm child = calm
own_of_env (env.Io fault.NoMemory path) calm child = refl
own_of_env env.NoMemory calm child = refl

pub own_env : (f : EnvError) (e : Error) → e ≡ error_of_env f → IsOwn {A = LoadedRequest} (Err e) → tells_failure f ≡ false
own_env f e is own = own_of_env f (sym (ap is_fault is) ∙ own.0) (sym (ap is_uncaptured is) ∙ own.2)

module _ (w : World) where
  -- the modules have one list of dotenv pairs, or one refusal, where the same children are run for them
  loads_dotenv : (k : ProjectRequest) → TakesOwn (λ cs r. LoadsDotenv (Some w) cs k r)
  loads_dotenv k cs ds xs ys is are (Ok a) (Ok b) p m q n =
      let one = dotenv_agrees w k.wanted.dotenv k.wanted.flags k.environ.pairs k.justfile cs ds xs ys is are (Ok a.dotenv) (Ok b.dotenv) p.4 tt q.4 tt in (
        ap (λ x. Ok x)
            (ap (λ x. let z : LoadedRequest = record { wanted = x; environ = a.environ; justfile = a.justfile; modules = a.modules; dotenv = a.dotenv } in z) (p.0 ∙ sym q.0)
            ∙ ap (λ x. let z : LoadedRequest = record { wanted = b.wanted; environ = x; justfile = a.justfile; modules = a.modules; dotenv = a.dotenv } in z) (p.1 ∙ sym q.1)
            ∙ ap (λ x. let z : LoadedRequest = record { wanted = b.wanted; environ = b.environ; justfile = x; modules = a.modules; dotenv = a.dotenv } in z) (p.2 ∙ sym q.2)
            ∙ ap (λ x. let z : LoadedRequest = record { wanted = b.wanted; environ = b.environ; justfile = b.justfile; modules = x; dotenv = a.dotenv } in z) (p.3 ∙ sym q.3)
            ∙ ap (λ x. let z : LoadedRequest = record { wanted = b.wanted; environ = b.environ; justfile = b.justfile; modules = b.modules; dotenv = x } in z) (one_found a.dotenv b.dotenv one.0)),
        one.1,
        one.2,
      )
  loads_dotenv k cs ds xs ys is are (Ok a) (Err f) p m q n =
      let one = dotenv_agrees w k.wanted.dotenv k.wanted.flags k.environ.pairs k.justfile cs ds xs ys is are (Ok a.dotenv) (Err q.0) p.4 tt q.1 (own_env q.0 f q.2 n) in
      absurd (found_or_refused a.dotenv q.0 one.0)
  loads_dotenv k cs ds xs ys is are (Err e) (Ok b) p m q n =
      let one = dotenv_agrees w k.wanted.dotenv k.wanted.flags k.environ.pairs k.justfile cs ds xs ys is are (Err p.0) (Ok b.dotenv) p.1 (own_env p.0 e p.2 m) q.4 tt in
      absurd (found_or_refused b.dotenv p.0 (sym one.0))
  loads_dotenv k cs ds xs ys is are (Err e) (Err f) p m q n =
      let one = dotenv_agrees w k.wanted.dotenv k.wanted.flags k.environ.pairs k.justfile cs ds xs ys is are (Err p.0) (Err q.0) p.1 (own_env p.0 e p.2 m) q.1 (own_env q.0 f q.2 n) in
      (ap (λ x. Err x) (p.2 ∙ ap (λ (l : EnvError). error_of_env l) (one_refusal p.0 q.0 one.0) ∙ sym q.2), one.1, one.2)

-- the modules stay
abbrev pub EndsLoaded : LoadedRequest → Type 0
EndsLoaded p = End p.modules

keeps_dotenv : (told : Option World) (cs : List Capture) → Finds EndsProject (LoadsDotenv told cs) EndsLoaded
keeps_dotenv told cs k ends found p = subst (λ (ms : List Justfile). End ms) (sym p.3) ends

-- a project has one evaluation, since no variable leads to itself
pub evaluates_variables : GivesOwnOf EndsLoaded EvaluatesVariables
evaluates_variables k ends (Ok a) (Ok b) p m q n =
    let scopes = one_found a.scopes b.scopes (evaluations_agree k.modules k.dotenv k.environ k.wanted.overrides (Ok a.scopes) (Ok b.scopes) ends.variables p.3 q.3) in
    ap (λ x. Ok x)
    (ap (λ x. let z : ScopesRequest = record { wanted = x; justfile = a.justfile; modules = a.modules; scopes = a.scopes } in z) (p.0 ∙ sym q.0)
    ∙ ap (λ x. let z : ScopesRequest = record { wanted = b.wanted; justfile = x; modules = a.modules; scopes = a.scopes } in z) (p.1 ∙ sym q.1)
    ∙ ap (λ x. let z : ScopesRequest = record { wanted = b.wanted; justfile = b.justfile; modules = x; scopes = a.scopes } in z) (p.2 ∙ sym q.2)
    ∙ ap (λ x. let z : ScopesRequest = record { wanted = b.wanted; justfile = b.justfile; modules = b.modules; scopes = x } in z) scopes)
evaluates_variables k ends (Ok a) (Err f) p m q n =
    absurd (found_or_refused a.scopes q.0 (evaluations_agree k.modules k.dotenv k.environ k.wanted.overrides (Ok a.scopes) (Err q.0) ends.variables p.3 q.1))
evaluates_variables k ends (Err e) (Ok b) p m q n =
    absurd (found_or_refused b.scopes p.0 (evaluations_agree k.modules k.dotenv k.environ k.wanted.overrides (Ok b.scopes) (Err p.0) ends.variables q.3 p.1))
evaluates_variables k ends (Err e) (Err f) p m q n =
    ap (λ x. Err x)
    (p.2 ∙ ap (λ (l : LangError). error_of_lang l) (one_refusal p.0 q.0 (evaluations_agree k.modules k.dotenv k.environ k.wanted.overrides (Err p.0) (Err q.0) ends.variables p.1 q.1)) ∙ sym q.2)

-- ---- from the values to a closure

-- words ask for one thing
asks_one : (s : ScopesRequest) (x y : Answer (List Key)) → AsksKeys s x → AsksKeys s y → x ≡ y
asks_one s x y p q =
    p.2 ∙ ap (λ (asked : Answer (List Key)). and_then asked (within_one s.wanted.one)) (agree s.modules s.scopes s.justfile s.wanted.words p.0 q.0 p.1 q.1) ∙ sym q.2

invokes_keys : GivesOwn InvokesKeys
invokes_keys k (Ok a) (Ok b) p m q n =
    ap (λ x. Ok x)
    (ap (λ x. let z : KeysRequest = record { wanted = x; modules = a.modules; scopes = a.scopes; keys = a.keys } in z) (p.0 ∙ sym q.0)
    ∙ ap (λ x. let z : KeysRequest = record { wanted = b.wanted; modules = x; scopes = a.scopes; keys = a.keys } in z) (p.1 ∙ sym q.1)
    ∙ ap (λ x. let z : KeysRequest = record { wanted = b.wanted; modules = b.modules; scopes = x; keys = a.keys } in z) (p.2 ∙ sym q.2)
    ∙ ap (λ x. let z : KeysRequest = record { wanted = b.wanted; modules = b.modules; scopes = b.scopes; keys = x } in z) (one_found a.keys b.keys (asks_one k (Ok a.keys) (Ok b.keys) p.3 q.3)))
invokes_keys k (Ok a) (Err f) p m q n = absurd (found_or_refused a.keys q.0 (asks_one k (Ok a.keys) (Err q.0) p.3 q.1))
invokes_keys k (Err e) (Ok b) p m q n = absurd (found_or_refused b.keys p.0 (asks_one k (Ok b.keys) (Err p.0) q.3 p.1))
invokes_keys k (Err e) (Err f) p m q n =
    ap (λ x. Err x) (p.2 ∙ ap (λ (l : LangError). error_of_lang l) (one_refusal p.0 q.0 (asks_one k (Err p.0) (Err q.0) p.1 q.1)) ∙ sym q.2)

-- keys have one closure, or one refusal
closes_keys : GivesOwn ClosesKeys
closes_keys k (Ok a) (Ok b) p m q n =
    let around = around_of k.wanted.no_deps k.modules k.scopes in
    ap (λ x. Ok x)
    (ap (λ x. let z : ClosureRequest = record { wanted = x; modules = a.modules; scopes = a.scopes; closure = a.closure } in z) (p.0 ∙ sym q.0)
    ∙ ap (λ x. let z : ClosureRequest = record { wanted = b.wanted; modules = x; scopes = a.scopes; closure = a.closure } in z) (p.1 ∙ sym q.1)
    ∙ ap (λ x. let z : ClosureRequest = record { wanted = b.wanted; modules = b.modules; scopes = x; closure = a.closure } in z) (p.2 ∙ sym q.2)
    ∙ ap (λ x. let z : ClosureRequest = record { wanted = b.wanted; modules = b.modules; scopes = b.scopes; closure = x } in z)
    (one_found a.closure b.closure (closures_agree around k.keys (Ok a.closure) (Ok b.closure) p.3 q.3)))
closes_keys k (Ok a) (Err f) p m q n =
    absurd (found_or_refused a.closure q.0 (closures_agree (around_of k.wanted.no_deps k.modules k.scopes) k.keys (Ok a.closure) (Err q.0) p.3 q.1))
closes_keys k (Err e) (Ok b) p m q n =
    absurd (found_or_refused b.closure p.0 (closures_agree (around_of k.wanted.no_deps k.modules k.scopes) k.keys (Ok b.closure) (Err p.0) q.3 p.1))
closes_keys k (Err e) (Err f) p m q n =
    ap (λ x. Err x)
    (p.2 ∙ ap (λ (l : LangError). error_of_lang l) (one_refusal p.0 q.0 (closures_agree (around_of k.wanted.no_deps k.modules k.scopes) k.keys (Err p.0) (Err q.0) p.1 q.1)) ∙ sym q.2)

-- ---- from a closure to a plan

-- the outline of a closure with these plans
abbrev outline_with : ClosureRequest → List NodePlan → Outline
outline_with c plans =
    record { nodes = zip c.closure.nodes plans; invocations = c.closure.invocations; jobs = option_map non_zero_u64_get c.wanted.jobs; messages = messages_of c.modules c.closure.nodes }

-- a closure has one plan, or one refusal
makes_plan : GivesOwn MakesPlan
makes_plan c (Ok a) (Ok b) p m q n = ap (λ x. Ok x) (p.2 ∙ ap (λ (plans : List NodePlan). outline_with c plans) (one_found p.0 q.0 (sym p.1 ∙ q.1)) ∙ sym q.2)
makes_plan c (Ok a) (Err f) p m q n = absurd (found_or_refused p.0 q.0 (sym p.1 ∙ q.1))
makes_plan c (Err e) (Ok b) p m q n = absurd (found_or_refused q.0 p.0 (sym q.1 ∙ p.1))
makes_plan c (Err e) (Err f) p m q n = ap (λ x. Err x) (p.2 ∙ ap (λ (g : PlanError). error_of_plan g) (one_refusal p.0 q.0 (sym p.1 ∙ q.1)) ∙ sym q.2)

-- ---- the chain

pub plans_keys : GivesOwn PlansKeys
plans_keys = then_own InvokesKeys _ invokes_keys (then_own ClosesKeys MakesPlan closes_keys makes_plan)

-- of a justfile whose modules come to an end
plans_project : GivesOwnOf EndsLoaded PlansProject
plans_project =
    then_own_of EndsLoaded (λ (s : ScopesRequest). Unit {0}) EvaluatesVariables PlansKeys evaluates_variables (λ k ends found p. tt) (own_of (λ (s : ScopesRequest). Unit {0}) PlansKeys plans_keys)

-- a project whose modules come to an end has one answer behind its pairs, where the same children are run for these
module _ {B : Type 0} (looks : LoadedRequest → Result B Error → Type 0) (one_look : GivesOwnOf EndsLoaded looks) (w : World) (k : ProjectRequest) (ends : EndsProject k) where
  abbrev pub BehindPairs : List Capture → Result B Error → Type 0
  BehindPairs cs r = Then (LoadsDotenv (Some w) cs) looks k r

  pub behind_pairs : TakesOwn BehindPairs
  behind_pairs cs ds xs ys is are r s (stops e p at) own (stops f q so) other =
      let one = loads_dotenv w k cs ds xs ys is are (Err e) (Err f) p (own_refusal r e at own) q (own_refusal s f so other) in
      (at ∙ same_refusal e f one.0 ∙ sym so, one.1, one.2)
  behind_pairs cs ds xs ys is are r s (stops e p at) own (goes_on y q more) other =
      let one = loads_dotenv w k cs ds xs ys is are (Err e) (Ok y) p (own_refusal r e at own) q tt in
      absurd (refused_or_found e y one.0)
  behind_pairs cs ds xs ys is are r s (goes_on x p more) own (stops f q so) other =
      let one = loads_dotenv w k cs ds xs ys is are (Ok x) (Err f) p tt q (own_refusal s f so other) in
      absurd (refused_or_found f x (sym one.0))
  behind_pairs cs ds xs ys is are r s (goes_on x p more) own (goes_on y q further) other =
      let one = loads_dotenv w k cs ds xs ys is are (Ok x) (Ok y) p tt q tt in
      let there : looks y r = subst (λ z. looks z r) (same_found x y one.0) more in
      (one_look y (keeps_dotenv (Some w) ds k ends y q) r s there own further other, one.1, one.2)

-- it has one plan, or one refusal
loaded_plan : (w : World) (k : ProjectRequest) → EndsProject k → TakesOwn (λ cs r. PlansLoaded (Some w) cs k r)
loaded_plan w k ends = behind_pairs PlansProject plans_project w k ends

pub plans_sources : (w : World) (s : SourcesRequest) → TakesOwn (λ cs r. PlansSources (Some w) cs s r)
plans_sources w s cs ds xs ys is are r t (no_project e p none at) own (no_project f q nothing so) other =
    (at ∙ same_refusal e f (finds_project s (Err e) (Err f) p (own_refusal r e at own) q (own_refusal t f so other)) ∙ sym so, none ∙ sym nothing, sym (ap (λ l. l ++ xs) none) ∙ is ∙ ap (λ l. l ++ ys) nothing)
plans_sources w s cs ds xs ys is are r t (no_project e p none at) own (of_project k q plans) other = absurd (refused_or_found e k (finds_project s (Err e) (Ok k) p (own_refusal r e at own) q tt))
plans_sources w s cs ds xs ys is are r t (of_project k p plans) own (no_project f q nothing so) other = absurd (refused_or_found f k (finds_project s (Err f) (Ok k) q (own_refusal t f so other) p tt))
plans_sources w s cs ds xs ys is are r t (of_project k p plans) own (of_project l q others) other =
    let same : k ≡ l = same_found k l (finds_project s (Ok k) (Ok l) p tt q tt) in
    loaded_plan w l (finds_ending s tt l q) cs ds xs ys is are r t (subst (λ z. PlansLoaded (Some w) cs z r) same plans) own others other
