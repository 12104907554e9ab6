-- What is still to come follows what was found; each turn takes a character.
use Rattle.std.proofs.Common.{◌≡◌, length}
use Rattle.just_lang_syntax.proofs.PathLoop.{names_to_come}
use Rattle.just_lang_syntax.proofs.token.path.Given as goal

abbrev pub invariant-names : goal.invariant-names
invariant-names l = names_to_come l.initial.names.items l.initial.cursor ≡ names_to_come l.names.items l.cursor

abbrev pub decreases-names : goal.decreases-names
decreases-names l = length l.cursor.rest
