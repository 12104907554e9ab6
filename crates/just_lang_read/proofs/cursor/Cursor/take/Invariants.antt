-- What was taken and what is still to come are the whole run; each turn takes a character.
use Rattle.std.proofs.Common.{◌≡◌, ◌++◌, length, string_bytes, encode_utf8_all}
use Rattle.just_lang_read.specs.Place.{past, run}
use Rattle.just_lang_read.proofs.cursor.Cursor.take.Given as goal

abbrev pub invariant-loop-c : goal.invariant-loop-c
invariant-loop-c g l =
    (past g.C.Class.members l.self ≡ past g.C.Class.members l.initial.self)
    × (string_bytes l.text ++ encode_utf8_all (run g.C.Class.members l.self.rest) ≡ encode_utf8_all (run g.C.Class.members l.initial.self.rest))

abbrev pub decreases-loop-c : goal.decreases-loop-c
decreases-loop-c g l = length l.self.rest
