-- That a plan can be written down as a tree, which is why two proofs that plans are equal are one.
use Rattle.std.specs.Coded.{Coded}
use Rattle.just_sched_history.specs.contracts.plan.Plan as plan_contract
use Rattle.just_sched_history.specs.declared.plan.Plan.{Plan}

abbrev pub plan_code : Coded Plan
plan_code = plan_contract.the_row.coded
