-- The words so far, and those of what is left, the first of which goes on with the word that is read.
use Rattle.std.proofs.Common.{◌≡◌, ◌++◌, [], drop, string_bytes}
use Rattle.just_cli_children.specs.Words.{words_from}
use Rattle.just_cli_children.proofs.text_words.words_in.Given as goal

abbrev pub invariant-characters : goal.invariant-characters
invariant-characters l = l.words.items ++ words_from (string_bytes l.word) (drop l.character-index l.character-items) ≡ words_from [] l.character-items
