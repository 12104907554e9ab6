-- What a plan says of the node of a number; nothing past the last one.
use Rattle.std.specs.Prelude.{ℕ, Bool, false, List, [], slice_get, Option, Some, None}
use Rattle.just_sched_history.specs.declared.cache_plan.CachePlan.{CachePlan}
use Rattle.just_sched_history.specs.declared.plan_node.PlanNode.{PlanNode}
use Rattle.just_exec_work.specs.declared.work.Command.{Command}
use Rattle.just_exec_work.specs.declared.work.Work.{Work}
use Rattle.just_exec_work.specs.declared.work.Work.TheVariants as work
use Rattle.just_exec_work.specs.Steps.{commands_of}

abbrev pub priors_in : Option PlanNode → List ℕ
priors_in (Some x) = x.node.priors
priors_in None = []

abbrev pub subsequents_in : Option PlanNode → List ℕ
subsequents_in (Some x) = x.node.subsequents
subsequents_in None = []

abbrev pub parallel_in : Option PlanNode → Bool
parallel_in (Some x) = x.parallel
parallel_in None = false

abbrev pub prompt_in : Option PlanNode → Option (List ℕ)
prompt_in (Some x) = x.prompt
prompt_in None = None

abbrev pub work_in : Option PlanNode → Work
work_in (Some x) = x.work
work_in None = work.Empty

abbrev pub banner_in : Option PlanNode → List ℕ
banner_in (Some x) = x.banner
banner_in None = []

abbrev pub cache_in : Option PlanNode → Option CachePlan
cache_in (Some x) = x.cache
cache_in None = None

-- the paths of the inputs and of the outputs of a cache; none where there is no cache
abbrev pub paths_in : Option CachePlan → List (List ℕ)
paths_in (Some c) = c.paths
paths_in None = []

abbrev pub outputs_in : Option CachePlan → List (List ℕ)
outputs_in (Some c) = c.outputs
outputs_in None = []

abbrev pub priors_at : List PlanNode → ℕ → List ℕ
priors_at nodes n = priors_in (slice_get nodes n)

abbrev pub subsequents_at : List PlanNode → ℕ → List ℕ
subsequents_at nodes n = subsequents_in (slice_get nodes n)

-- whether the priors of a node, and so its subsequents, may run side by side
abbrev pub parallel_at : List PlanNode → ℕ → Bool
parallel_at nodes n = parallel_in (slice_get nodes n)

abbrev pub prompt_at : List PlanNode → ℕ → Option (List ℕ)
prompt_at nodes n = prompt_in (slice_get nodes n)

abbrev pub work_at : List PlanNode → ℕ → Work
work_at nodes n = work_in (slice_get nodes n)

abbrev pub banner_at : List PlanNode → ℕ → List ℕ
banner_at nodes n = banner_in (slice_get nodes n)

-- the cache of a node, if it has one
abbrev pub cache_at : List PlanNode → ℕ → Option CachePlan
cache_at nodes n = cache_in (slice_get nodes n)

-- the command of a node at a place
abbrev pub command_at : List PlanNode → ℕ → ℕ → Option Command
command_at nodes n i = slice_get (commands_of (work_at nodes n)) i
