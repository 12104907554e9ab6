-- As many steps are to come as letters are left.
use Rattle.std.proofs.Common.{◌≡◌, drop}
use Rattle.just_lang_read.specs.Place.{behind_text}
use Rattle.just_lang_read.proofs.cursor.Cursor.pass_text.Given as goal

abbrev pub invariant-letters : goal.invariant-letters
invariant-letters l = behind_text (drop l._letter-index l.text) l.self ≡ behind_text l.initial.text l.initial.self
