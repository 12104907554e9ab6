-- The plan of what the words ask for is the reply.
use Rattle.std.proofs.Common.{refl}
use Rattle.just_cli.proofs.reply.planned.Goals as goal

pub returns-in-Ok-clause-plan : goal.returns-in-Ok-clause-plan
returns-in-Ok-clause-plan c = λ modules are. (_, c.in-Ok.ensures.plan modules are, refl)
