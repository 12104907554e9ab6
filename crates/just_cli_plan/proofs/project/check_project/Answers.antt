-- The modules are looked at, which are one list.
use Rattle.just_cli_plan.proofs.Chain.{stable_all, feature_told}
use Rattle.just_cli_plan.proofs.project.check_project.Goals as goal

pub returns-in-Ok-clause-stable : goal.returns-in-Ok-clause-stable
returns-in-Ok-clause-stable c = stable_all c.args.justfile.now _ (rw (← c.as_slice.ensures.value) at c.in_ok-modules.ensures) c.args.allowed c.in-Ok.ensures.stable

pub returns-clause-refused : goal.returns-clause-refused
returns-clause-refused c = feature_told c.args.justfile.now _ (rw (← c.as_slice.ensures.value) at c.in_ok-modules.ensures) c.args.allowed _ c.in-Err.ensures.refused
