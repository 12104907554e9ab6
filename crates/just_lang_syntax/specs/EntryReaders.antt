-- The entry that the code reads from a place on, and the fault that it tells where it reads none. That this is what the
-- grammar says is proved in proofs/.
use Rattle.std.specs.Prelude.{◌≡◌, ◌≢◌, Result, Ok, Err}
use Rattle.just_lang_read.specs.Place.{Place}
use Rattle.just_lang_read.specs.Reader.{Outcome}
use Rattle.just_lang_read.specs.declared.error.ReadError.{ReadError}
use Rattle.just_lang_read.specs.declared.error.ReadError.TheVariants as reason
use Rattle.just_lang_syntax.specs.declared.entry.Entry.{Entry}
use Rattle.just_lang_syntax.specs.declared.entry.Body.{Body}
use Rattle.just_lang_syntax.specs.declared.error.FaultKind.TheVariants.{Syntax, Depth}
use Rattle.just_lang_syntax.specs.declared.error.ParseError.{ParseError}
use Rattle.just_lang_syntax.specs.declared.error.ParseError.TheVariants as error
use Rattle.just_lang_syntax.specs.ItemReaders.{entry_at}

-- why nothing was read, as a fault at that place
abbrev pub fault_at : Place → ReadError → ParseError
fault_at p reason.Syntax = error.Fault (record { kind = Syntax; line = p.line; column = p.column })
fault_at p reason.Depth = error.Fault (record { kind = Depth; line = p.line; column = p.column })
fault_at p reason.NoMemory = error.NoMemory

abbrev pub or_fault : Place → Outcome (Entry × Body) → Result ((Entry × Body) × Place) ParseError
or_fault p (Ok s) = Ok s
or_fault p (Err e) = Err (fault_at p e)

-- the entry at a place, the body behind it and the place behind it; or the fault there
unfoldable pub entry_or_fault : Body → Place → Result ((Entry × Body) × Place) ParseError
entry_or_fault b p = or_fault p (entry_at b p)

-- what a function that reads an entry ensures of its result and of the place where it leaves the cursor
abbrev pub ReadsEntry : Result ((Entry × Body) × Place) ParseError → Result (Entry × Body) ParseError → Place → Type 0
ReadsEntry outcome (Ok s) new = outcome ≡ Ok (s, new)
ReadsEntry outcome (Err e) new = e ≢ error.NoMemory → outcome ≡ Err e
