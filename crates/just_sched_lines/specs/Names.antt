-- The names of calls and misses: those of their variants.
use Rattle.std.specs.Prelude.{ℕ, List, codes}
use Rattle.just_path.specs.declared.host.Miss.{Miss}
use Rattle.just_path.specs.declared.host.Miss.TheVariants as miss
use Rattle.just_host_record.specs.declared.entry.Call.{Call}
use Rattle.just_host_record.specs.declared.entry.Call.TheVariants as call

abbrev pub call_name : Call → List ℕ
call_name call.Meta = codes "Meta"
call_name call.List = codes "List"
call_name call.Canonical = codes "Canonical"
call_name call.Link = codes "Link"
call_name call.Current = codes "Current"
call_name call.Read = codes "Read"
call_name call.Input = codes "Input"
call_name call.Ask = codes "Ask"
call_name call.Environ = codes "Environ"
call_name call.Write = codes "Write"
call_name call.MakeFolder = codes "MakeFolder"
call_name call.Temp = codes "Temp"
call_name call.Remove = codes "Remove"
call_name call.Print = codes "Print"
call_name call.Sum = codes "Sum"
call_name call.Probe = codes "Probe"
call_name call.Check = codes "Check"
call_name call.Save = codes "Save"
call_name call.Start = codes "Start"
call_name call.Wait = codes "Wait"
call_name call.Capture = codes "Capture"

abbrev pub miss_name : Miss → List ℕ
miss_name miss.NotFound = codes "NotFound"
miss_name miss.NotFolder = codes "NotFolder"
miss_name miss.IsFolder = codes "IsFolder"
miss_name miss.NotUtf8 = codes "NotUtf8"
miss_name miss.NotEmpty = codes "NotEmpty"
miss_name miss.TooLarge = codes "TooLarge"
