-- The bytes so far hold no slash.
use Rattle.std.proofs.Common.{◌≡◌, drop}
use Rattle.just_path.specs.Names.{has_no_slash}
use Rattle.rows_texts.proofs.pairs.is_extension.Given as goal

abbrev pub invariant-loop-byte : goal.invariant-loop-byte
invariant-loop-byte l = has_no_slash (drop l.byte-index l.bytes) ≡ has_no_slash l.text
