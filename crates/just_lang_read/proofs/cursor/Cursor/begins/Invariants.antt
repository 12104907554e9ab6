-- What is left of the text is compared with what is left of the cursor's.
use Rattle.std.proofs.Common.{◌≡◌, drop}
use Rattle.just_lang_read.specs.Place.{begins_in}
use Rattle.just_lang_read.proofs.cursor.Cursor.begins.Given as goal

abbrev pub invariant-letters : goal.invariant-letters
invariant-letters l = begins_in (drop l.letter-index l.text) l.rest ≡ begins_in l.initial.text l.initial.rest
