-- What is still to come, behind what was read, is all of the value; each turn takes a character.
use Rattle.std.proofs.Common.{◌≡◌, [], false, length, string_bytes}
use Rattle.just_dotenv.proofs.Values.{to_come}
use Rattle.just_dotenv.proofs.value.parts.Given as goal

abbrev pub invariant-parts : goal.invariant-parts
invariant-parts l =
    to_come l.scope.environ.now.pairs l.scope.earlier.now l.quoted [] false l.initial.cursor
    ≡ to_come l.scope.environ.now.pairs l.scope.earlier.now l.quoted (string_bytes l.text) l.waits l.cursor

abbrev pub decreases-parts : goal.decreases-parts
decreases-parts l = length l.cursor.rest
