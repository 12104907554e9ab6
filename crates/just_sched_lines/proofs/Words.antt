-- Names are read back from their letters.
use Rattle.std.proofs.Common.{◌≡◌, ℕ, List, ◌∷◌, ◌++◌, refl}
use Rattle.just_path.specs.declared.host.Miss.{Miss}
use Rattle.just_path.specs.declared.host.Miss.TheVariants as miss
use Rattle.just_host_record.specs.Signals.{name_of}
use Rattle.just_host_record.specs.declared.entry.Call.{Call}
use Rattle.just_host_record.specs.declared.entry.Call.TheVariants as call
use Rattle.just_host_record.specs.declared.signal.Signal.{Signal}
use Rattle.just_host_record.specs.declared.signal.Signal.TheVariants as signal
use Rattle.just_sched_lines.specs.Names.{call_name, miss_name}
use Rattle.just_sched_lines.proofs.Reading.{behind_colon, call_in, miss_in, signal_in}

pub call_read : (c : Call) (t : List ℕ) → call_in (call_name c ++ t) ≡ c
call_read call.Meta t = refl
call_read call.List t = refl
call_read call.Canonical t = refl
call_read call.Link t = refl
call_read call.Current t = refl
call_read call.Read t = refl
call_read call.Input t = refl
call_read call.Ask t = refl
call_read call.Environ t = refl
call_read call.Write t = refl
call_read call.MakeFolder t = refl
call_read call.Temp t = refl
call_read call.Remove t = refl
call_read call.Print t = refl
call_read call.Sum t = refl
call_read call.Probe t = refl
call_read call.Check t = refl
call_read call.Save t = refl
call_read call.Start t = refl
call_read call.Wait t = refl
call_read call.Capture t = refl

-- a name ends at the colon behind it
pub colon_read : (c : Call) (t : List ℕ) → behind_colon (call_name c ++ (58 ∷ t)) ≡ t
colon_read call.Meta t = refl
colon_read call.List t = refl
colon_read call.Canonical t = refl
colon_read call.Link t = refl
colon_read call.Current t = refl
colon_read call.Read t = refl
colon_read call.Input t = refl
colon_read call.Ask t = refl
colon_read call.Environ t = refl
colon_read call.Write t = refl
colon_read call.MakeFolder t = refl
colon_read call.Temp t = refl
colon_read call.Remove t = refl
colon_read call.Print t = refl
colon_read call.Sum t = refl
colon_read call.Probe t = refl
colon_read call.Check t = refl
colon_read call.Save t = refl
colon_read call.Start t = refl
colon_read call.Wait t = refl
colon_read call.Capture t = refl

pub miss_read : (m : Miss) (t : List ℕ) → miss_in (miss_name m ++ t) ≡ m
miss_read miss.NotFound t = refl
miss_read miss.NotFolder t = refl
miss_read miss.IsFolder t = refl
miss_read miss.NotUtf8 t = refl
miss_read miss.NotEmpty t = refl
miss_read miss.TooLarge t = refl

pub signal_read : (g : Signal) (t : List ℕ) → signal_in (name_of g ++ t) ≡ g
signal_read signal.Hangup t = refl
signal_read signal.Interrupt t = refl
signal_read signal.Quit t = refl
signal_read signal.Terminate t = refl
