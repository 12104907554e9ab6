-- So many blank lines were added.
use Rattle.std.proofs.Common.{◌≡◌, ◌++◌, replicate, string_bytes}
use Rattle.just_host_record.proofs.script_text.push_blank_lines.Given as goal

abbrev pub invariant-count : goal.invariant-count
invariant-count l = string_bytes l.text ≡ string_bytes l.initial.text ++ replicate l._at 10
