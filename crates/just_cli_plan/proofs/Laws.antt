-- The laws of this crate.
use Rattle.just_cli_plan.specs.Agree.{PlansAgree, PlansAlone}
use Rattle.just_cli_plan.proofs.Alone.{sources_alone}
use Rattle.just_cli_plan.proofs.Requests.{plans_sources}

pub plans_agree : PlansAgree
plans_agree w s cs ds xs ys is are r q p m o n = plans_sources w s cs ds xs ys is are r q p m o n

pub plans_alone : PlansAlone
plans_alone w s cs ds ys is are r q p m o n = sources_alone w s cs ds ys is are r q p m o n
