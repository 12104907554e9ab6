-- What a host's log holds, what it has room for, and how a call of a path host moves it.
use Rattle.std.specs.Prelude.{ℕ, ◌≡◌, ◌+◌, ◌<◌, ◌++◌, List, vec_len, vec_capacity}
use Rattle.just_path.specs.declared.host.PathNote.{PathNote}
use Rattle.just_host_record.specs.declared.entry.Entry.{Entry}
use Rattle.just_host_record.specs.declared.log.Log.{Log}
use Rattle.just_host_record.specs.Record.{noted}

-- the record so far
abbrev pub entries_of : Log → List Entry
entries_of log = log.entries.items

-- how many entries of `settle` need no memory
abbrev pub spare_of : Log → ℕ
spare_of log = log.spare

-- how many children were started
abbrev pub started_of : Log → ℕ
started_of log = log.started

-- there is memory for one entry beside the spare ones
abbrev pub HasRoom : Log → Type 0
HasRoom log = vec_len log.entries + log.spare < vec_capacity log.entries

-- it appends what its note stands for, and leaves the spare memory
pub record LogWent (a b : Log) (n : PathNote) : Type 0 where
  pub entries : entries_of b ≡ entries_of a ++ noted n
  pub spare : spare_of b ≡ spare_of a
