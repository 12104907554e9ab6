-- What isn't started fails as its start.
use Rattle.std.proofs.Common.{subst}
use Rattle.just_host_record.specs.Record.{IsCaptureFault}
use Rattle.just_host_system.proofs.capturing.capture_fed.Goals as goal

pub returns-in-Err-clause-fault : goal.returns-in-Err-clause-fault
returns-in-Err-clause-fault g c = λ input. subst (λ r. IsCaptureFault input r) c.in-Err.is (c.script_file.ensures input)
