-- The place of a cursor, and the room that its line and column keep.
use Rattle.std.specs.Prelude.{◌+◌, ◌<◌, ◌^◌, length}
use Rattle.just_lang_read.specs.Place.{Place, at}
use Rattle.just_lang_read.specs.declared.cursor.Cursor.TheInside.{Inside}

abbrev pub place_of : Inside → Place
place_of c = at c.rest.now c.line c.column

-- one more line for each character that is left would still be a number of 64 bits, and so one more column
pub record HasRoom (c : Inside) : Type 0 where
  pub lines : c.line + length c.rest.now < 2 ^ 64
  pub columns : c.column + length c.rest.now < 2 ^ 64
