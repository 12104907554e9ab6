-- The plan of a recipe that is run, step by step.
use Rattle.std.proofs.Common.{◌≡◌, ◌≢◌, ℕ, List, Option, Result, Ok, Err, sym, ap, ◌∙◌}
use Rattle.std.specs.Result.{IsErrAnd}
use Rattle.just_lang_types.specs.declared.key.Value.{Value}
use Rattle.just_lang_types.specs.declared.node.BodyLine.{BodyLine}
use Rattle.just_lang_types.specs.declared.scope.Scopes.{Scopes}
use Rattle.just_lang_types.specs.declared.project.LangError.{LangError}
use Rattle.just_lang_types.specs.declared.project.LangError.TheVariants as lang
use Rattle.just_eval_closure.specs.Answers.{Answer}
use Rattle.just_lang_types.specs.Modules.{settings_of, Located}
use Rattle.just_exec_work.specs.declared.error.CommandError.{CommandError}
use Rattle.just_exec_work.specs.declared.error.CommandError.TheVariants as command
use Rattle.just_exec_work.specs.declared.run_flags.RunFlags.{RunFlags}
use Rattle.just_exec_work.specs.declared.work.Work.{Work}
use Rattle.just_exec_work.specs.Works.{Run, recipe_work}
use Rattle.just_exec.specs.declared.plan_error.PlanError.{PlanError}
use Rattle.just_exec.specs.declared.plan_error.PlanError.TheVariants as error
use Rattle.just_exec.specs.declared.node_cache.NodeCache.{NodeCache}
use Rattle.just_exec.specs.declared.node_plan.NodePlan.{NodePlan}
use Rattle.just_exec.specs.Caches.{recipe_cache}
use Rattle.just_exec.specs.Plans.{PlanAnswer, GivesPlan, then_plan, folder_in, running, node_plan, run_plan}

pub running_is : (flags : RunFlags) (from : Located) (values : List Value) (changes : List (List ℕ × Option (List ℕ))) (f : List ℕ) → f ≡ folder_in flags from.parent
    → record { recipe = from.recipe; settings = settings_of from.parent; folder = f; values = values; changes = changes; flags = flags } ≡ running flags from values changes
running_is flags from values changes f is =
    ap (λ g. let r : Run = record { recipe = from.recipe; settings = settings_of from.parent; folder = g; values = values; changes = changes; flags = flags } in r) is

-- ---- the plan of a recipe

module _ (scopes : Scopes) (from : Located) (run : Run) (folder : List ℕ) (lines : List BodyLine) where
  -- what is planned with a cache behind the work
  abbrev behind_work : Work → PlanAnswer NodePlan
  behind_work w = then_plan (λ e. error.Lang e) (recipe_cache scopes from run folder lines w) (λ cache. Ok (node_plan run.flags from w cache))

  by_work : (a : Result Work CommandError) → recipe_work run lines ≡ a → run_plan scopes from run folder lines ≡ then_plan (λ e. error.Command e) a behind_work
  by_work a is = ap (λ b. then_plan (λ e. error.Command e) b behind_work) is

  by_cache : (w : Work) (a : Answer (Option NodeCache)) → recipe_work run lines ≡ Ok w → recipe_cache scopes from run folder lines w ≡ a
      → run_plan scopes from run folder lines ≡ then_plan (λ e. error.Lang e) a (λ cache. Ok (node_plan run.flags from w cache))
  by_cache w a is at = by_work (Ok w) is ∙ ap (λ b. then_plan (λ e. error.Lang e) b (λ cache. Ok (node_plan run.flags from w cache))) at

  pub run_planned : (w : Work) (cache : Option NodeCache) → recipe_work run lines ≡ Ok w → recipe_cache scopes from run folder lines w ≡ Ok cache → run_plan scopes from run folder lines ≡ Ok (node_plan run.flags from w cache)
  run_planned w cache is at = by_cache w (Ok cache) is at

  -- the body can't be run
  pub work_refused : (e : CommandError) (p : PlanError) → (e ≢ command.NoMemory → recipe_work run lines ≡ Err e) → p ≡ error.Command e → GivesPlan (run_plan scopes from run folder lines) (Err p)
  work_refused e p refused told _ not = by_work (Err e) (refused (λ is. not (told ∙ ap (λ x. error.Command x) is))) ∙ ap (λ q. Err q) (sym told)

  -- the same of what is returned then
  pub work_refused_from : (e : CommandError) (answer : PlanAnswer NodePlan) (P : PlanError → Type 0) → ((p : PlanError) → P p → p ≡ error.Command e) → (e ≢ command.NoMemory → recipe_work run lines ≡ Err e) → IsErrAnd answer P
      → GivesPlan (run_plan scopes from run folder lines) answer
  work_refused_from e (Ok x) P told refused given = absurd given
  work_refused_from e (Err p) P told refused given = work_refused e p refused (told p given)

  -- its cache has no values
  pub cache_lost : (w : Work) (e : LangError) (p : PlanError) → recipe_work run lines ≡ Ok w → (e ≢ lang.NoMemory → recipe_cache scopes from run folder lines w ≡ Err e) → p ≡ error.Lang e → GivesPlan (run_plan scopes from run folder lines) (Err p)
  cache_lost w e p is refused told not _ = by_cache w (Err e) is (refused (λ at. not (told ∙ ap (λ x. error.Lang x) at))) ∙ ap (λ q. Err q) (sym told)

  pub cache_lost_from : (w : Work) (e : LangError) (answer : PlanAnswer NodePlan) (P : PlanError → Type 0) → ((p : PlanError) → P p → p ≡ error.Lang e) → recipe_work run lines ≡ Ok w → (e ≢ lang.NoMemory → recipe_cache scopes from run folder lines w ≡ Err e) → IsErrAnd answer P
      → GivesPlan (run_plan scopes from run folder lines) answer
  cache_lost_from w e (Ok x) P told is refused given = absurd given
  cache_lost_from w e (Err p) P told is refused given = cache_lost w e p is refused (told p given)
