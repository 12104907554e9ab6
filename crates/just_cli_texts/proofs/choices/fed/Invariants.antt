-- What is left follows what was added.
use Rattle.std.proofs.Common.{◌≡◌, ◌++◌, drop, string_bytes}
use Rattle.just_cli_texts.specs.Choices.{fed as fed_lines}
use Rattle.just_cli_texts.proofs.choices.fed.Given as goal

abbrev pub invariant-lines : goal.invariant-lines
invariant-lines l = string_bytes l.text ++ fed_lines (drop l.line-index l.lines) ≡ fed_lines l.lines
