-- What is fed isn't spoken of where nothing of it failed.
use Rattle.just_host_system.proofs.capturing.capture.Goals as goal

pub returns-in-Ok-clause-fault : goal.returns-in-Ok-clause-fault
returns-in-Ok-clause-fault g c = c.capture_fed.ensures.fault c.args.input.now
