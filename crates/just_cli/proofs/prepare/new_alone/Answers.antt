-- The path that is free for it is what is asked for.
use Rattle.std.proofs.Common.{refl}
use Rattle.just_cli.specs.Words.{ConfigRequest}
use Rattle.just_cli.proofs.Commanding.{new_refused}
use Rattle.just_cli.proofs.prepare.new_alone.Goals as goal

pub returns-in-Ok-clause-asked : goal.returns-in-Ok-clause-asked
returns-in-Ok-clause-asked g c = (_, c.in-Ok.ensures.free, refl)

pub returns-in-Err-clause-refused : goal.returns-in-Err-clause-refused
returns-in-Err-clause-refused g c =
    let q : ConfigRequest = record { config = c.args.config.now; environ = c.args.environ.now } in
    new_refused _ q _ c.in-Err.ensures.refused
