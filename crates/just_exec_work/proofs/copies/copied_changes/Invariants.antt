-- What is left follows what was copied.
use Rattle.std.proofs.Common.{◌≡◌, ◌++◌, drop}
use Rattle.just_exec_work.proofs.copies.copied_changes.Given as goal

abbrev pub invariant-changes : goal.invariant-changes
invariant-changes l = l.copies.items ++ drop l.name-index l.changes ≡ l.changes
