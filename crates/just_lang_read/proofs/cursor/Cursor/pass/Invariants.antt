-- The run still ends where it ended at first; each turn takes a character.
use Rattle.std.proofs.Common.{◌≡◌, length}
use Rattle.just_lang_read.specs.Place.{past}
use Rattle.just_lang_read.proofs.cursor.Cursor.pass.Given as goal

abbrev pub invariant-loop-self : goal.invariant-loop-self
invariant-loop-self g l = past g.C.Class.members l.self ≡ past g.C.Class.members l.initial.self

abbrev pub decreases-loop-self : goal.decreases-loop-self
decreases-loop-self g l = length l.self.rest
