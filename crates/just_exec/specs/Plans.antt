-- What the plan of a run says of its nodes.
use Rattle.std.specs.Prelude.{◌≡◌, ◌≢◌, ℕ, false, List, [], ◌∷◌, Option, None, Result, Ok, Err}
use Rattle.just_lang_types.specs.declared.key.Value.{Value}
use Rattle.just_lang_types.specs.declared.node.BodyLine.{BodyLine}
use Rattle.just_lang_types.specs.declared.scope.Scopes.{Scopes}
use Rattle.just_lang_types.specs.declared.project.Justfile.{Justfile, out-Justfile}
use Rattle.just_lang_types.specs.declared.project.LangError.TheVariants as lang
use Rattle.just_lang_types.specs.Modules.{path_of, settings_of, Located}
use Rattle.just_exec_work.specs.declared.error.CommandError.TheVariants as command
use Rattle.just_exec_work.specs.declared.run_flags.RunFlags.{RunFlags}
use Rattle.just_exec_work.specs.declared.work.Work.{Work}
use Rattle.just_exec_work.specs.declared.work.Work.TheVariants as work
use Rattle.just_exec_work.specs.Folders.{module_folder}
use Rattle.just_exec_work.specs.Works.{Run, recipe_work}
use Rattle.just_exec.specs.declared.plan_error.PlanError.{PlanError}
use Rattle.just_exec.specs.declared.plan_error.PlanError.TheVariants as error
use Rattle.just_exec.specs.declared.node_plan.NodePlan.{NodePlan}
use Rattle.just_exec.specs.declared.node_cache.NodeCache.{NodeCache}
use Rattle.just_exec.specs.Banners.{banner}
use Rattle.just_exec.specs.Caches.{recipe_cache}
use Rattle.just_exec.specs.Prompts.{prompt, is_parallel}

-- ---- answers that may be refusals

abbrev pub PlanAnswer : Type 0 → Type 0
PlanAnswer A = Result A PlanError

-- an answer and what is planned by it; a refusal is told as one of the plan
abbrev pub then_plan : {A B E : Type 0} → (E → PlanError) → Result A E → (A → PlanAnswer B) → PlanAnswer B
then_plan told (Ok a) next = next a
then_plan told (Err e) next = Err (told e)

-- what is planned for each, in order, up to the first refusal
abbrev pub each_plan : {A B : Type 0} → (A → PlanAnswer B) → List A → PlanAnswer (List B)
each_plan plan [] = Ok []
each_plan plan (x ∷ xs) = then_plan (λ e. e) (plan x) (λ y. then_plan (λ e. e) (each_plan plan xs) (λ ys. Ok (y ∷ ys)))

-- a call gives that answer, or memory is wanting
abbrev pub GivesPlan : {A : Type 0} → PlanAnswer A → PlanAnswer A → Type 0
GivesPlan answer (Ok a) = answer ≡ Ok a
GivesPlan answer (Err e) = e ≢ error.Lang lang.NoMemory → e ≢ error.Command command.NoMemory → answer ≡ Err e

-- ---- the plan of a node

-- the folder of a module
abbrev pub folder_in : RunFlags → Justfile → List ℕ
folder_in flags j = module_folder flags.folder (path_of j) (out-Justfile j).source

-- a recipe in its module, run with these values of its parameters and these changes of the environment
abbrev pub running : RunFlags → Located → List Value → List (List ℕ × Option (List ℕ)) → Run
running flags from values changes =
    record { recipe = from.recipe; settings = settings_of from.parent; folder = folder_in flags from.parent; values = values; changes = changes; flags = flags }

abbrev pub node_plan : RunFlags → Located → Work → Option NodeCache → NodePlan
node_plan flags from w cache = record { prompt = prompt flags from.recipe; parallel = is_parallel from.recipe; work = w; banner = banner flags from.recipe; cache = cache }

-- the plan of a path at which no recipe is
abbrev pub no_plan : NodePlan
no_plan = record { prompt = None; parallel = false; work = work.Empty; banner = []; cache = None }

-- The plan of a recipe that is run so, by the lines of its body: what it has to run comes before its cache, whose entries stand in that folder.
abbrev pub run_plan : Scopes → Located → Run → List ℕ → List BodyLine → PlanAnswer NodePlan
run_plan scopes from run folder lines =
    then_plan (λ e. error.Command e) (recipe_work run lines) (λ w. then_plan (λ e. error.Lang e) (recipe_cache scopes from run folder lines w) (λ cache. Ok (node_plan run.flags from w cache)))
