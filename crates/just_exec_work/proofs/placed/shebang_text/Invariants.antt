-- What is left follows what was added.
use Rattle.std.proofs.Common.{◌≡◌, ◌++◌, drop, string_bytes}
use Rattle.just_exec_work.specs.Scripts.{shebang_lines}
use Rattle.just_exec_work.proofs.placed.shebang_text.Given as goal

abbrev pub invariant-lines : goal.invariant-lines
invariant-lines l = string_bytes l.text ++ shebang_lines l.kept (drop l.line-index l.lines) ≡ shebang_lines l.kept l.lines
