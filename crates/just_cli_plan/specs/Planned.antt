-- The plan of a closure.
use Rattle.std.specs.Prelude.{ℕ, ◌≡◌, true, List, map, option_map, Option, Some, None, Bool, Ok, Err}
use Rattle.just_lang_types.specs.declared.key.Key.{Key}
use Rattle.just_lang_types.specs.declared.key.Value.{Value}
use Rattle.just_lang_types.specs.declared.node.Closure.{Closure}
use Rattle.just_lang_types.specs.declared.node.Node.{Node}
use Rattle.just_lang_types.specs.declared.project.Justfile.{Justfile, out-Justfile}
use Rattle.just_lang_types.specs.declared.scope.Scopes.{Scopes}
use Rattle.just_lang_types.specs.Modules.{path_of, settings_of, Located, recipe_at}
use Rattle.just_eval_closure.specs.declared.entry.Entry.{Entry}
use Rattle.just_eval_closure.specs.Scopes.{pairs_for, levels_within}
use Rattle.just_eval_closure.specs.Dependencies.{scope_within}
use Rattle.just_env.specs.Changes.{Change, changes}
use Rattle.just_exec_work.specs.Attributes.{prints_code}
use Rattle.just_exec_work.specs.declared.error.CommandError.{CommandError}
use Rattle.just_exec_work.specs.declared.error.CommandError.TheVariants as command
use Rattle.just_exec_work.specs.declared.run_flags.RunFlags.{RunFlags}
use Rattle.just_eval.specs.Bodies.{lines_of_recipe}
use Rattle.just_exec.specs.declared.plan_error.PlanError.{PlanError}
use Rattle.just_exec.specs.declared.plan_error.PlanError.TheVariants as plan_error
use Rattle.just_exec.specs.Plans.{PlanAnswer, then_plan, each_plan, running, run_plan, no_plan}
use Rattle.just_exec.specs.Refusals.{error_of_lang}
use Rattle.just_exec.specs.declared.error.Error.{Error}
use Rattle.just_exec.specs.declared.error.Error.TheVariants as error
use Rattle.just_exec.specs.declared.node_cache.NodeCache.{NodeCache}
use Rattle.just_exec.specs.declared.node_plan.NodePlan.{NodePlan}
use Rattle.just_sched_history.specs.declared.cache_plan.CachePlan.{CachePlan}
use Rattle.just_sched_history.specs.declared.plan_node.PlanNode.{PlanNode}

-- what changes in the environment of the children of a recipe, which see its module and its parameters with these values
abbrev pub changes_in : Scopes → List Value → Located → List Change
changes_in scopes values l =
    changes (pairs_for scopes.dotenv (path_of l.parent)) (settings_of l.parent).export (out-Justfile l.parent).unexports (scope_within scopes (path_of l.parent) l.recipe.parameters values).levels

-- the same of a recipe that was found, by what it sees
abbrev pub entry_changes : Entry → List Value → List Change
entry_changes f values = changes f.pairs.now (settings_of f.parent.now).export (out-Justfile f.parent.now).unexports (levels_within f.levels.now f.recipe.now.parameters values)

-- the cache of a node of a plan, without its class, which is that of its key
abbrev pub cache_planned : CachePlan → NodeCache
cache_planned c = record { key = c.key; folder = c.folder; inputs = c.inputs; paths = c.paths; outputs = c.outputs }

-- what is planned for a node of a plan
abbrev pub node_planned : PlanNode → NodePlan
node_planned x = record { prompt = x.prompt; parallel = x.parallel; work = x.work; banner = x.banner; cache = option_map cache_planned x.cache }

-- the node with what is planned for it
abbrev pub planned : PlanNode → Node × NodePlan
planned x = (x.node, node_planned x)

-- whether the message of a recipe's exit code is told
abbrev pub message_at : Option Located → Bool
message_at None = true
message_at (Some l) = prints_code (settings_of l.parent) l.recipe.attributes

-- of each node
abbrev pub messages_of : List Justfile → List Node → List Bool
messages_of modules nodes = map (λ n. message_at (recipe_at modules n.key.recipe)) nodes

-- what is planned for a recipe with these values of its parameters, or why its body can't be run; nothing is run where no recipe is. The entries of caches
-- stand in that folder
abbrev pub recipe_plan : RunFlags → List ℕ → Scopes → List Value → Option Located → PlanAnswer NodePlan
recipe_plan flags folder scopes values None = Ok no_plan
recipe_plan flags folder scopes values (Some from) =
    then_plan (λ e. plan_error.Lang e) (lines_of_recipe scopes from values) (λ lines. run_plan scopes from (running flags from values (changes_in scopes values from)) folder lines)

-- what is planned for a key, and for a node
abbrev pub key_plan : RunFlags → List ℕ → List Justfile → Scopes → Key → PlanAnswer NodePlan
key_plan flags folder modules scopes k = recipe_plan flags folder scopes k.arguments (recipe_at modules k.recipe)

abbrev pub plan_for : RunFlags → List ℕ → List Justfile → Scopes → Node → PlanAnswer NodePlan
plan_for flags folder modules scopes node = key_plan flags folder modules scopes node.key

-- for each of some nodes, or the first refusal; and for each of a closure
abbrev pub plans_for : RunFlags → List ℕ → List Justfile → Scopes → List Node → PlanAnswer (List NodePlan)
plans_for flags folder modules scopes nodes = each_plan (plan_for flags folder modules scopes) nodes

abbrev pub plans_in : RunFlags → List ℕ → List Justfile → Scopes → Closure → PlanAnswer (List NodePlan)
plans_in flags folder modules scopes c = plans_for flags folder modules scopes c.nodes

abbrev pub error_of_command : CommandError → Error
error_of_command (command.InvalidShebang recipe shebang) = error.InvalidShebang recipe shebang
error_of_command command.NoMemory = error.NoMemory

abbrev pub error_of_plan : PlanError → Error
error_of_plan (plan_error.Lang l) = error_of_lang l
error_of_plan (plan_error.Command c) = error_of_command c

-- why a closure has no plan: a body can't be run, or a cache has no values
abbrev pub RefusesNodes : RunFlags → List ℕ → List Justfile → Scopes → Closure → Error → Type 0
RefusesNodes flags folder modules scopes c e = (f : PlanError) × (plans_in flags folder modules scopes c ≡ Err f) × (e ≡ error_of_plan f)
