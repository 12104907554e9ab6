-- What is known of the host of this process.
use Rattle.std.specs.Prelude.{ℕ, List, [], Option, Some, None}
use Rattle.just_host_record.specs.declared.entry.Entry.{Entry}
use Rattle.just_host_record.specs.Logs.{entries_of}
use Rattle.just_host_system.specs.declared.real.RealHost.{RealHost}
use Rattle.just_host_system.specs.declared.script.ScriptFile.{ScriptFile}

-- the record of the host of this process
abbrev pub record_of : {R : Type 0} → RealHost R → List Entry
record_of h = entries_of h.log

-- the path of the file of a script; empty where there is none
abbrev pub path_of : Option ScriptFile → List ℕ
path_of None = []
path_of (Some f) = f.path
