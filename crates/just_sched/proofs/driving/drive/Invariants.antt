-- The name under which a run is driven: it begins at the plan, the limit and the host as they are, and its ledger is new.
use Rattle.std.proofs.Common.{option_map}
use Rattle.std.specs.Int.NonZero.{non_zero_u64_get}
use Rattle.just_sched_history.specs.Start.{start_with}
use Rattle.just_sched.proofs.driving.drive.Given as goal

abbrev pub ghosts-drive_named-P-Naming : goal.ghosts-drive_named-P-Naming
ghosts-drive_named-P-Naming g a = record { start = start_with a.plan (option_map non_zero_u64_get a.jobs) (g.H.Host.told a.host) }

abbrev pub ghosts-drive_named-P-Ledger : goal.ghosts-drive_named-P-Ledger
ghosts-drive_named-P-Ledger g a = record { name = a.blank.name; parts = 65 }
