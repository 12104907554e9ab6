-- No line ended so far.
use Rattle.std.proofs.Common.{◌≡◌, ◌++◌, take, drop}
use Rattle.just_exec_work.specs.Cuts.{is_newline, before_first}
use Rattle.just_exec_work.proofs.cut.first_line.Given as goal

abbrev pub invariant-bytes : goal.invariant-bytes
invariant-bytes l = take l.at l.text ++ before_first is_newline (drop l.at l.text) ≡ before_first is_newline l.text
