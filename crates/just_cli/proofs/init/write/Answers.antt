-- The file is written, and the line told; or one of both is refused.
use Rattle.std.proofs.Common.{◌∙◌, ap}
use Rattle.just_cli.specs.Written.{written_line, IsUnwritten}
use Rattle.just_cli.proofs.NewJustfile.{write_refused, writes_path, wrote, not_told}
use Rattle.just_cli.proofs.init.write.Goals as goal

pub returns-in-Ok-write-clause-written : goal.returns-in-Ok-write-clause-written
returns-in-Ok-write-clause-written g c =
    wrote _ _ _ _ _ _ _ _ _ _ _ c.tell_line.result (writes_path _ _ _ _ _ _ _ c.as_path.ensures c.as_bytes.ensures.value c.in-Ok-write.ensures.world) c.tell_line.ensures.world c.in-Ok-write.ensures.entries (c.as_str-in-Ok-write.ensures.value ∙ (c.in-Ok.ensures ∙ ap (λ p. written_line p) c.as_str.ensures)) c.tell_line.ensures.told

pub returns-in-Ok-write-clause-unwritten : goal.returns-in-Ok-write-clause-unwritten
returns-in-Ok-write-clause-unwritten g c =
    not_told _ _ _ _ _ _ _ _ _ _ c.tell_line.result (writes_path _ _ _ _ _ _ _ c.as_path.ensures c.as_bytes.ensures.value c.in-Ok-write.ensures.world) c.tell_line.ensures.world c.in-Ok-write.ensures.entries c.tell_line.ensures.untold

pub returns-in-Err-write-clause-unwritten : goal.returns-in-Err-write-clause-unwritten
returns-in-Err-write-clause-unwritten g c = (
  IsUnwritten.unwritten c.in-Err-write.fault c.write_error.ensures c.in-Err-write.ensures.own (writes_path _ _ _ _ _ _ _ c.as_path.ensures c.as_bytes.ensures.value c.in-Err-write.ensures.world),
  write_refused _ _ _ _ c.in-Err-write.fault _ c.as_path.ensures c.in-Err-write.ensures.entries c.write_error.ensures,
)
