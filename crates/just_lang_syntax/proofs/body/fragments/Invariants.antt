-- What is still to come follows what was found; each turn takes a character.
use Rattle.std.proofs.Common.{◌≡◌, length}
use Rattle.just_lang_syntax.proofs.Loops.{fragments_to_come}
use Rattle.just_lang_syntax.proofs.body.fragments.Given as goal

abbrev pub invariant-fragments : goal.invariant-fragments
invariant-fragments l = fragments_to_come l.initial.found.items l.initial.cursor ≡ fragments_to_come l.found.items l.cursor

abbrev pub decreases-fragments : goal.decreases-fragments
decreases-fragments l = length l.cursor.rest
