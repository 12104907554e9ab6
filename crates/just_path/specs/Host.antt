-- What a call of a `PathHost` leaves to be known, and how the counts of faults and misses move by it.
use Rattle.std.specs.Prelude.{ℕ, ◌≤◌, ◌<◌, List, Result, Ok, Err}
use Rattle.just_path.specs.declared.host.PathCall.{PathCall}
use Rattle.just_path.specs.declared.host.PathFault.{PathFault}
use Rattle.just_path.specs.declared.host.PathFault.TheVariants as fault
use Rattle.just_path.specs.declared.host.PathNote.{PathNote}
use Rattle.just_path.specs.declared.host.PathNote.TheVariants as note

-- the note of a refusal of that call, made on that path
abbrev pub note_of_fault : PathCall → List ℕ → PathFault → PathNote
note_of_fault call path (fault.Missed m) = note.Missed path m
note_of_fault call path fault.Failed = note.Failed call
note_of_fault call path fault.NoMemory = note.Nothing

-- the note of an answer of that call, made on that path
abbrev pub note_of : {A : Type 0} → PathCall → List ℕ → Result A PathFault → PathNote
note_of call path (Ok x) = note.Nothing
note_of call path (Err e) = note_of_fault call path e

-- faults rise at `Failed` and misses at `Missed`; neither ever falls
abbrev pub Counts : PathNote → ℕ → ℕ → ℕ → ℕ → Type 0
Counts note.Nothing faults faults' misses misses' = (faults ≤ faults') × (misses ≤ misses')
Counts (note.Missed path m) faults faults' misses misses' = (faults ≤ faults') × (misses < misses')
Counts (note.Failed call) faults faults' misses misses' = (faults < faults') × (misses ≤ misses')
