-- The run of nothing, over a host that told nothing.
use Rattle.std.specs.Prelude.{◌<◌, ◌^◌, All, [], length, None}
use Rattle.std.proofs.Common.{arith, lit<}
use Rattle.just_eval_closure.specs.WellFormed.{IsWellFormed}
use Rattle.just_sched_history.specs.declared.plan_node.PlanNode.{PlanNode}
use Rattle.just_exec_work.specs.Steps.{commands_of}
use Rattle.just_sched_history.specs.Start.{Start}

-- no nodes and no invocations are well formed
pub nothing_formed : IsWellFormed [] []
nothing_formed = record {
  invocations_are = λ k d h. absurd (omega arith);
  priors_are = λ n x e. absurd (cc);
  subsequents_are = λ n x e. absurd (cc);
  rounds_are = λ n m x e. absurd (cc);
  used = λ n x e. absurd (cc);
  distinct = λ n m x y e. absurd (cc);
}

-- no node has too many commands
pub nothing_short : All (λ (x : PlanNode). length (commands_of x.work) < 2 ^ 32) []
nothing_short = λ k d h. absurd (omega arith)

-- where the name begins that no run has
abbrev pub nowhere : Start
nowhere = record {
  plan = record { nodes = []; invocations = []; well = ∣ nothing_formed ∣₁; few = lit< tt; short = ∣ nothing_short ∣₁ };
  jobs = None;
  told = record { entries = []; world = None };
}
