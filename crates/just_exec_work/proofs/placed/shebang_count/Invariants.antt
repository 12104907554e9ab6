-- All so far begin with `#!`.
use Rattle.std.proofs.Common.{◌≡◌, ◌+◌, drop}
use Rattle.just_exec_work.specs.Scripts.{shebang_count}
use Rattle.just_exec_work.proofs.placed.shebang_count.Given as goal

abbrev pub invariant-lines : goal.invariant-lines
invariant-lines l =
    record {
      count : l.count ≡ l.line-index;
      rest : l.line-index + shebang_count (drop l.line-index l.lines) ≡ shebang_count l.lines;
    }
