-- What is left follows what was taken.
use Rattle.std.proofs.Common.{◌≡◌, ◌++◌, drop, string_bytes, encode_utf8_all}
use Rattle.just_lang_read.proofs.indentation.string_of.Given as goal

abbrev pub invariant-characters : goal.invariant-characters
invariant-characters l = string_bytes l.text ++ encode_utf8_all (drop l.c-index l.characters) ≡ encode_utf8_all l.characters
