-- What is left follows what was added.
use Rattle.std.proofs.Common.{◌≡◌, ◌++◌, drop, string_bytes}
use Rattle.just_exec_work.specs.Scripts.{placed}
use Rattle.just_exec_work.proofs.placed.push_placed.Given as goal

abbrev pub invariant-lines : goal.invariant-lines
invariant-lines l = string_bytes l.text ++ placed l.count (drop l.line-index l.lines) ≡ string_bytes l.initial.text ++ placed l.above l.lines
