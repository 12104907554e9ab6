-- What a call of the host answers to a request, and what a refused one is told as.
use Rattle.std.specs.Prelude.{ℕ, ◌≡◌, List, [], Option, Result, Ok, Err, MatchOption}
use Rattle.just_path.specs.declared.host.Miss.{Miss}
use Rattle.just_path.specs.declared.host.PathFault.{PathFault}
use Rattle.just_path.specs.declared.host.PathFault.TheVariants as path_fault
use Rattle.just_host_record.specs.declared.entry.Call.{Call}
use Rattle.just_host_record.specs.declared.entry.Call.TheVariants as call
use Rattle.just_host_record.specs.declared.entry.Entry.{Entry}
use Rattle.just_host_record.specs.declared.entry.HostFault.{HostFault}
use Rattle.just_host_record.specs.declared.entry.HostFault.TheVariants as fault
use Rattle.just_exec.specs.declared.error.Error.{Error}
use Rattle.just_exec.specs.declared.error.Error.TheVariants as error
use Rattle.just_cli_plan.specs.Own.{OrMemory}
use Rattle.just_cli_plan.specs.Pairs.{entries_of as entries_in}

-- the fault of asking for the current folder, as a fault of a host
abbrev pub fault_of_path : PathFault → HostFault
fault_of_path (path_fault.Missed m) = fault.Missed m
fault_of_path path_fault.Failed = fault.Failed call.Current
fault_of_path path_fault.NoMemory = fault.NoMemory

-- the error of a refused call, told so; want of memory is told as itself
abbrev pub error_by : (HostFault → Error) → HostFault → Error
error_by told (fault.Missed m) = told (fault.Missed m)
error_by told (fault.Failed c) = told (fault.Failed c)
error_by told fault.NoMemory = error.NoMemory

-- of a refused call on a path, of the current folder, and of a text that wasn't printed
abbrev pub io_error : List ℕ → HostFault → Error
io_error path f = error_by (λ g. error.FilesystemIo path g) f

abbrev pub folder_error : HostFault → Error
folder_error f = error_by (λ g. error.CurrentDir g) f

abbrev pub print_error : HostFault → Error
print_error f = error_by (λ g. error.StdoutIo g) f

-- of a justfile that isn't written
abbrev pub write_error : List ℕ → HostFault → Error
write_error path f = error_by (λ g. error.WriteJustfile path g) f

-- the entry of the refused call that an error tells, if it tells one, where the error has the path of its own or the call has none
abbrev pub entries_of : Error → List Entry
entries_of e = entries_in [] e

-- a fault is the call's own, and a miss is the one that is shown, where something is
abbrev pub FaultFits : {A : Type 0} → Call → Option (Result A Miss) → HostFault → Type 0
FaultFits c shown (fault.Missed m) = MatchOption shown (Unit {0}) (λ s. s ≡ Err m)
FaultFits c shown (fault.Failed d) = d ≡ c
FaultFits c shown fault.NoMemory = ⊥

-- The answer of a host's call whose refusals are told so, where a told world shows this: what is shown, or a fault of the call. A
-- host that tells no world may answer anything.
abbrev pub CallGives : {A : Type 0} → Call → (HostFault → Error) → Option (Result A Miss) → Result A Error → Type 0
CallGives c told shown (Ok x) = MatchOption shown (Unit {0}) (λ s. s ≡ Ok x)
CallGives c told shown (Err e) = (f : HostFault) × (e ≡ told f) × FaultFits c shown f

-- a print that failed, or for which memory was wanting
abbrev pub IsPrintError : Error → Type 0
IsPrintError e = OrMemory (λ x. x ≡ error.StdoutIo (fault.Failed call.Print)) e
