-- The status is the one that waiting told.
use Rattle.std.specs.Process.{child_status}
use Rattle.just_host_system.proofs.Ends.{told_ended}
use Rattle.just_host_system.proofs.child.RealDone.after.Goals as goal

pub invariant_of-result : goal.invariant_of-result
invariant_of-result c = record { told = told_ended c.wait.result (child_status c.wait.new.self) c.ending-status.result c.wait.ensures.kept c.ending-status.ensures }
