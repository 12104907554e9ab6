-- The values are those of the project's variables, none of which leads to itself.
use Rattle.std.proofs.Common.{refl}
use Rattle.just_cli_plan.proofs.Chain.{values_lost}
use Rattle.just_cli_plan.proofs.project.scopes_of.Goals as goal

pub evaluate-requires : goal.evaluate-requires
evaluate-requires c = record { ends = λ modules are. (c.requires modules are).variables }

pub returns-in-Err-clause-refused : goal.returns-in-Err-clause-refused
returns-in-Err-clause-refused c =
    values_lost c.args.justfile.now c.args.dotenv.now c.args.dotenv.now refl c.args.environ.now c.args.wanted.now.overrides c.as_slice.result.now c.as_slice.ensures c.in-Err.error c.in-Err.ensures.refused _ c.from.ensures
