-- What is left of the run follows what was taken.
use Rattle.std.proofs.Common.{◌≡◌, ◌++◌, length}
use Rattle.just_lang_read.specs.Place.{past, run}
use Rattle.just_lang_read.specs.Characters.{in_line}
use Rattle.just_lang_read.proofs.tokens.line_characters.Given as goal

abbrev pub invariant-characters : goal.invariant-characters
invariant-characters l = record {
  place : past in_line l.cursor ≡ past in_line l.initial.cursor;
  characters : l.found.items ++ run in_line l.cursor.rest ≡ run in_line l.initial.cursor.rest;
}

abbrev pub decreases-characters : goal.decreases-characters
decreases-characters l = length l.cursor.rest
