-- Where a child that gives dotenv pairs wasn't run to its end, no answer that is own uses up the same children and no others.
use Rattle.std.proofs.Common.{◌≡◌, false, true, true≢false, Some, Result, Ok, Err, refl, sym, ◌∙◌, ap, subst}
use Rattle.just_lang_types.specs.declared.project.LangError.{LangError}
use Rattle.just_lang_types.specs.declared.project.LangError.TheVariants as lang
use Rattle.just_exec_work.specs.declared.error.CommandError.TheVariants as command
use Rattle.just_host_record.specs.World.{World}
use Rattle.just_exec.specs.declared.plan_error.PlanError.{PlanError}
use Rattle.just_exec.specs.declared.plan_error.PlanError.TheVariants as plan_error
use Rattle.just_env.specs.Agree.{tells_uncaptured}
use Rattle.just_env.specs.declared.env_error.EnvError.{EnvError}
use Rattle.just_env.specs.declared.env_error.EnvError.TheVariants as env
use Rattle.just_env.specs.declared.env_error.OutputError.TheVariants as output
use Rattle.just_env.proofs.Alone.{dotenv_alone}
use Rattle.just_exec.specs.Refusals.{error_of_lang, error_of_env}
use Rattle.just_exec.specs.declared.error.Error.{Error}
use Rattle.just_cli_plan.specs.Agree.{IsUnrun, StandsAlone}
use Rattle.just_cli_plan.specs.Own.{is_uncaptured}
use Rattle.just_cli_plan.specs.Planned.{error_of_plan}
use Rattle.just_cli_plan.specs.Request.{SourcesRequest, ProjectRequest, AssemblesJustfile, ChecksFeatures, FindsProject, LoadsDotenv, EvaluatesVariables, InvokesKeys, ClosesKeys, MakesPlan, PlansKeys, PlansProject, PlansLoaded, PlansSources, no_project, of_project}
use Rattle.just_cli_plan.specs.Steps.{Then, stops, goes_on}
use Rattle.just_cli_plan.proofs.Requests.{own_env, finds_project}
use Rattle.just_cli_plan.proofs.Steps.{own_refusal, refused_or_found, same_found}

-- ---- steps for which no child is run

abbrev RunsNone : {A B : Type 0} → (A → Result B Error → Type 0) → Type 0
RunsNone {A} {B} step = (known : A) (r : Result B Error) → step known r → IsUnrun r → ⊥

then_none : {A B C : Type 0} (one : A → Result B Error → Type 0) (two : B → Result C Error → Type 0) → RunsNone one → RunsNone two → RunsNone (Then one two)
then_none one two a b known r (stops e p at) lost = a known (Err e) p (subst (λ z. IsUnrun z) at lost)
then_none one two a b known r (goes_on x p more) lost = b x r more lost

lang_none : (l : LangError) → is_uncaptured (error_of_lang l) ≡ false
lang_none lang.NoMemory = refl
lang_none _ = refl

plan_none : (f : PlanError) → is_uncaptured (error_of_plan f) ≡ false
plan_none (plan_error.Lang l) = lang_none l
plan_none (plan_error.Command (command.InvalidShebang recipe shebang)) = refl
plan_none (plan_error.Command command.NoMemory) = refl

by_error : (e f : Error) → e ≡ f → is_uncaptured f ≡ false → is_uncaptured e ≡ true → ⊥
by_error e f is none lost = true≢false (sym lost ∙ ap is_uncaptured is ∙ none)

evaluates_none : RunsNone EvaluatesVariables
evaluates_none k (Ok s) p lost = lost
evaluates_none k (Err e) p lost = by_error e (error_of_lang p.0) p.2 (lang_none p.0) lost

invokes_none : RunsNone InvokesKeys
invokes_none k (Ok s) p lost = lost
invokes_none k (Err e) p lost = by_error e (error_of_lang p.0) p.2 (lang_none p.0) lost

closes_none : RunsNone ClosesKeys
closes_none k (Ok s) p lost = lost
closes_none k (Err e) p lost = by_error e (error_of_lang p.0) p.2 (lang_none p.0) lost

makes_none : RunsNone MakesPlan
makes_none k (Ok s) p lost = lost
makes_none k (Err e) p lost = by_error e (error_of_plan p.0) p.2 (plan_none p.0) lost

project_none : RunsNone PlansProject
project_none = then_none EvaluatesVariables PlansKeys evaluates_none (then_none InvokesKeys _ invokes_none (then_none ClosesKeys MakesPlan closes_none makes_none))

assembles_none : RunsNone AssemblesJustfile
assembles_none k (Ok s) p lost = lost
assembles_none k (Err e) p lost = by_error e (error_of_lang p.0) p.2 (lang_none p.0) lost

checks_none : RunsNone ChecksFeatures
checks_none k (Ok s) p lost = lost
checks_none k (Err e) p lost = true≢false (sym lost ∙ ap is_uncaptured p.2)

finds_none : RunsNone FindsProject
finds_none = then_none AssemblesJustfile ChecksFeatures assembles_none checks_none

-- ---- the pairs, and what stands behind them

pub same_unrun : (f : EnvError) → tells_uncaptured f ≡ is_uncaptured (error_of_env f)
same_unrun (env.DotenvCommand command (output.Code code)) = refl
same_unrun (env.DotenvCommand command (output.Io io)) = refl
same_unrun (env.DotenvCommand command (output.Signal number)) = refl
same_unrun (env.DotenvCommand command output.Unknown) = refl
same_unrun (env.DotenvCommand command output.Utf8) = refl
same_unrun _ = refl

unrun_env : (f : EnvError) (e : Error) → e ≡ error_of_env f → is_uncaptured e ≡ true → tells_uncaptured f ≡ true
unrun_env f e is lost = same_unrun f ∙ sym (ap is_uncaptured is) ∙ lost

module _ (w : World) where
  pairs_alone : (k : ProjectRequest) → StandsAlone (λ cs r. LoadsDotenv (Some w) cs k r)
  pairs_alone k cs ds ys is are (Ok a) s p lost q own = lost
  pairs_alone k cs ds ys is are (Err e) (Ok b) p lost q own =
      dotenv_alone w k.wanted.dotenv k.wanted.flags k.environ.pairs k.justfile cs ds ys is are (Err p.0) (Ok b.dotenv) p.1 (unrun_env p.0 e p.2 lost) q.4 tt
  pairs_alone k cs ds ys is are (Err e) (Err f) p lost q own =
      dotenv_alone w k.wanted.dotenv k.wanted.flags k.environ.pairs k.justfile cs ds ys is are (Err p.0) (Err q.0) p.1 (unrun_env p.0 e p.2 lost) q.1 (own_env q.0 f q.2 own)

  loaded_alone : (k : ProjectRequest) → StandsAlone (λ cs r. PlansLoaded (Some w) cs k r)
  loaded_alone k cs ds ys is are r s (stops e p at) lost (stops f q so) own = pairs_alone k cs ds ys is are (Err e) (Err f) p (subst (λ z. IsUnrun z) at lost) q (own_refusal s f so own)
  loaded_alone k cs ds ys is are r s (stops e p at) lost (goes_on y q further) own = pairs_alone k cs ds ys is are (Err e) (Ok y) p (subst (λ z. IsUnrun z) at lost) q tt
  loaded_alone k cs ds ys is are r s (goes_on x p more) lost q own = project_none x r more lost

  pub sources_alone : (s : SourcesRequest) → StandsAlone (λ cs r. PlansSources (Some w) cs s r)
  sources_alone s cs ds ys is are r t (no_project e p none at) lost q own = finds_none s (Err e) p (subst (λ z. IsUnrun z) at lost)
  sources_alone s cs ds ys is are r t (of_project k p plans) lost (no_project f q nothing so) own = refused_or_found f k (finds_project s (Err f) (Ok k) q (own_refusal t f so own) p tt)
  sources_alone s cs ds ys is are r t (of_project k p plans) lost (of_project l q others) own =
      let same : k ≡ l = same_found k l (finds_project s (Ok k) (Ok l) p tt q tt) in
      loaded_alone l cs ds ys is are r t (subst (λ z. PlansLoaded (Some w) cs z r) same plans) lost others own
