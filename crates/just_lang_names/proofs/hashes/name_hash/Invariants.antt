-- The bytes so far and those that are left are all.
use Rattle.std.proofs.Common.{◌≡◌, drop}
use Rattle.std.specs.List.{fold}
use Rattle.just_lang_names.specs.Hashes.{with_digit}
use Rattle.just_lang_names.proofs.hashes.name_hash.Given as goal

abbrev pub invariant-bytes : goal.invariant-bytes
invariant-bytes l = fold with_digit l.hash (drop l.byte-index l.name) ≡ fold with_digit 0 l.name
