-- What is left follows what was added.
use Rattle.std.proofs.Common.{◌≡◌, ◌++◌, drop, string_bytes}
use Rattle.std.specs.List.{flat_map}
use Rattle.just_exec_work.specs.Scripts.{ended}
use Rattle.just_exec_work.proofs.echo.script_echo.Given as goal

abbrev pub invariant-lines : goal.invariant-lines
invariant-lines l = string_bytes l.text ++ flat_map (λ x. ended x.text) (drop l.line-index l.lines) ≡ flat_map (λ x. ended x.text) l.lines
