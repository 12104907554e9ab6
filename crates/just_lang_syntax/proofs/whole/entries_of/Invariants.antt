-- The entries so far stand from the start of the text to the cursor, and leave this body; each turn takes a character.
use Rattle.std.proofs.Common.{length, chars}
use Rattle.just_lang_read.specs.Place.{start}
use Rattle.just_lang_syntax.specs.declared.entry.Body.TheVariants as body
use Rattle.just_lang_syntax.specs.File.{AreEntries}
use Rattle.just_lang_syntax.proofs.whole.entries_of.Given as goal

abbrev pub invariant-entries : goal.invariant-entries
invariant-entries l = AreEntries body.Closed (start (chars l.text)) l.cursor l.body l.entries.items

abbrev pub decreases-entries : goal.decreases-entries
decreases-entries l = length l.cursor.rest
