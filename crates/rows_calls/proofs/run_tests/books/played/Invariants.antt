-- The run is driven under the name of the run that begins at the plan, the limit and the host as they are.
use Rattle.std.proofs.Common.{option_map}
use Rattle.std.specs.Int.NonZero.{non_zero_u64_get}
use Rattle.just_sched_history.specs.Start.{start_with}
use Rattle.rows_calls.proofs.run_tests.books.played.Given as goal

abbrev pub ghosts-play-P-Naming : goal.ghosts-play-P-Naming
ghosts-play-P-Naming g a = record { start = start_with a.plan (option_map non_zero_u64_get a.jobs) (g.H.Host.told a.host) }

abbrev pub ghosts-play-P-Ledger : goal.ghosts-play-P-Ledger
ghosts-play-P-Ledger g a = record { name = a.blank.name; parts = 65 }
