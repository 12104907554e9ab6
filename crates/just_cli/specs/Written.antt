-- A justfile that is written, and told of; or that isn't.
use Rattle.std.specs.Prelude.{ℕ, ◌≡◌, ◌++◌, Bool, false, List, codes, Option, Result, Ok, Err, IfOk, IfErr}
use Rattle.just_host_record.specs.declared.entry.Call.TheVariants as call
use Rattle.just_host_record.specs.declared.entry.HostFault.{HostFault}
use Rattle.just_host_record.specs.Changes.{place_written, written, Changes}
use Rattle.just_host_record.specs.Record.{IsOwnFault}
use Rattle.just_host_record.specs.World.{World, Moment}
use Rattle.just_exec.specs.declared.error.Error.{Error}
use Rattle.just_exec.specs.declared.error.Error.TheVariants as error
use Rattle.just_cli.specs.declared.ended.Failure.{Failure}
use Rattle.just_cli.specs.declared.ended.Report.{Report}
use Rattle.just_cli_children.specs.Faults.{write_error}
use Rattle.just_cli.specs.Printing.{IsPlanless, told_line, IsPrintError, TellsRefusal}
use Rattle.just_cli.specs.Questions.{IsNothing}

-- what writing it answers and makes of a told world: behind it the file at the path holds that text, and nothing else is changed
abbrev pub Writes : List ℕ → List ℕ → Option World → Option World → Result (Unit {0}) HostFault → Type 0
Writes path text told after r = Changes (λ w. written w path text) (λ w place. place_written w path ≡ Ok place) told after r

-- the line that tells of it
abbrev pub written_line : List ℕ → List ℕ
written_line path = codes "wrote justfile to `" ++ (path ++ codes "`\n")

-- Why it isn't written, or isn't told of: memory is wanting before; or it can't be written; or it is written, and the line can't be printed.
pub data IsUnwritten (path text : List ℕ) (quiet : Bool) (told after : Option World) (e : Error) : Type 0 where
  no_memory : e ≡ error.NoMemory → after ≡ told → IsUnwritten path text quiet told after e
  unwritten : (io : HostFault) → e ≡ write_error path io → IsOwnFault call.Write io → Writes path text told after (Err io) → IsUnwritten path text quiet told after e
  untold : quiet ≡ false → IsPrintError e → Writes path text told after (Ok tt) → IsUnwritten path text quiet told after e

-- Nothing is run; that text is written to the file at the path, and told of; or one of both isn't done.
pub record IsWritten (path text : List ℕ) (quiet : Bool) (before after : Moment) (result : Result Report Failure) : Type 0 where
  pub written : IfOk result (λ r. IsNothing r × Writes path text before.world after.world (Ok tt) × (after.entries ≡ before.entries ++ told_line quiet (written_line path)))
  pub unwritten : IfErr result (λ f. IsPlanless f × IsUnwritten path text quiet before.world after.world f.error × TellsRefusal quiet f.error before.entries after.entries)
