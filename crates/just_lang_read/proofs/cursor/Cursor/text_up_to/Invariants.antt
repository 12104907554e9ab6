-- What is left follows what was taken.
use Rattle.std.proofs.Common.{◌≡◌, ◌++◌, drop, string_bytes, encode_utf8_all}
use Rattle.just_lang_read.proofs.cursor.Cursor.text_up_to.Given as goal

abbrev pub invariant-letters : goal.invariant-letters
invariant-letters l = string_bytes l.text ++ encode_utf8_all (drop l.c-index l.c-items) ≡ encode_utf8_all l.c-items
