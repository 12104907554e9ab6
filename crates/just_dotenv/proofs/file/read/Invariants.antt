-- The lines up to the cursor are read, their pairs are these, and the last value of each name is at hand; each turn takes a character.
use Rattle.std.proofs.Common.{length, chars}
use Rattle.just_dotenv.specs.LastValues.{AreLastValues}
use Rattle.just_dotenv.proofs.FileLaws.{UpTo}
use Rattle.just_dotenv.proofs.file.read.Given as goal

abbrev pub invariant-lines : goal.invariant-lines
invariant-lines l = record {
  read : UpTo (chars l.text) l.environ.pairs l.pairs.items l.cursor;
  at_hand : AreLastValues l.pairs.items l.values;
}

abbrev pub decreases-lines : goal.decreases-lines
decreases-lines l = length l.cursor.rest
