-- Why the calls for the environment and for the current folder are refused, and what they leave in the record.
use Rattle.std.proofs.Common.{◌≡◌, inl, inr, ℕ, List, [], Option, Some, None, option_map, Result, Ok, Err, refl, subst}
use Rattle.just_path.specs.Host.{note_of_fault}
use Rattle.just_path.specs.View.{View, Tells, current_told}
use Rattle.just_path.specs.declared.host.Miss.{Miss}
use Rattle.just_path.specs.declared.host.PathCall.TheVariants as path_call
use Rattle.just_path.specs.declared.host.PathFault.{PathFault}
use Rattle.just_path.specs.declared.host.PathFault.TheVariants as path_fault
use Rattle.just_host_record.specs.declared.entry.Call.TheVariants as call
use Rattle.just_host_record.specs.declared.entry.HostFault.{HostFault}
use Rattle.just_host_record.specs.declared.entry.HostFault.TheVariants as fault
use Rattle.just_host_record.specs.Record.{refused, noted, IsOwnFault, IsNoMiss}
use Rattle.just_host_record.specs.World.{World, view_of}
use Rattle.just_exec.specs.declared.error.Error.{Error}
use Rattle.just_cli_plan.specs.Own.{OrMemory}
use Rattle.just_cli_children.specs.Faults.{entries_of, fault_of_path, io_error, folder_error}
use Rattle.just_cli.specs.Asked.{EnvironGiven, FolderGiven}

-- the error of a refused call has its entry
pub io_entries : (path : List ℕ) (f : HostFault) → entries_of (io_error path f) ≡ refused path f
io_entries path (fault.Missed m) = refl
io_entries path (fault.Failed c) = refl
io_entries path fault.NoMemory = refl

pub folder_entries : (f : PathFault) → entries_of (folder_error (fault_of_path f)) ≡ noted (note_of_fault path_call.Current [] f)
folder_entries (path_fault.Missed m) = refl
folder_entries path_fault.Failed = refl
folder_entries path_fault.NoMemory = refl

-- the environment is never missed
pub environ_refused : (told : Option World) (f : HostFault) (e : Error) → IsOwnFault call.Environ f → IsNoMiss f → e ≡ io_error [] f → OrMemory (λ x. EnvironGiven told (Err x)) e
environ_refused told (fault.Missed m) e own never is = absurd never
environ_refused told (fault.Failed c) e own never is = inr (fault.Failed c, is, own)
environ_refused told fault.NoMemory e own never is = inl is

-- the current folder is missed over a host alone that tells no world
pub folder_refused : (told : Option World) (v : Option View) (f : PathFault) (e : Error) → v ≡ option_map view_of told → Tells {A = List ℕ} v current_told (Err f) → e ≡ folder_error (fault_of_path f) → OrMemory (λ x. FolderGiven told (Err x)) e
folder_refused None v (path_fault.Missed m) e seen shown is = inr (fault.Missed m, is, tt)
folder_refused (Some w) v (path_fault.Missed m) e seen shown is =
    let missed : ◌≡◌ {A = Result (List ℕ) Miss} (Ok w.current) (Err m) = subst (λ (u : Option View). Tells {A = List ℕ} u current_told (Err (path_fault.Missed m))) seen shown in absurd (let no : ⊥ = cc in no)
folder_refused told v path_fault.Failed e seen shown is = inr (fault.Failed call.Current, is, refl)
folder_refused told v path_fault.NoMemory e seen shown is = inl is
