-- The characters so far, and the text that is still to come.
use Rattle.std.proofs.Common.{◌≡◌, ◌++◌}
use lib.Utf8.{encodes}
use Rattle.just_lang_read.proofs.indentation.characters_of.Given as goal

abbrev pub invariant-characters : goal.invariant-characters
invariant-characters l = encodes l.characters.items ++ l.character-iterator.rest.now ≡ l.fn.text
