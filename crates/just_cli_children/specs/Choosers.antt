-- The program in which recipes are chosen: what it is run by, and what its answer comes to.
use Rattle.std.specs.Prelude.{ℕ, ◌≡◌, ◌≢◌, if◌then◌else◌, List, [], ◌∷◌, ◌++◌, Option, None, Result, Ok, Err, codes, pos}
use Rattle.std.specs.Option.{unwrap_or}
use Rattle.std.specs.Ordering.{int_eq}
use Rattle.std.specs.Str.Lossy.{utf8_lossy}
use Rattle.just_lang_types.specs.declared.settings.Interpreter.{Interpreter}
use Rattle.just_host_record.specs.declared.entry.Call.{Call}
use Rattle.just_host_record.specs.declared.entry.Call.TheVariants as call
use Rattle.just_host_record.specs.declared.entry.HostFault.{HostFault}
use Rattle.just_host_record.specs.declared.entry.HostFault.TheVariants as fault
use Rattle.just_host_record.specs.declared.entry.Status.{Status}
use Rattle.just_host_record.specs.declared.entry.Status.TheVariants as status
use Rattle.just_host_record.specs.Record.{IsCaptureRefusal}
use Rattle.just_host_record.specs.World.{World}
use Rattle.just_config.specs.declared.config.Config.{Config}
use Rattle.just_env.specs.Captures.{Capture, LeavesWorld}
use Rattle.just_env.specs.Commands.{command_spec}
use Rattle.just_exec.specs.Executors.{spaced}
use Rattle.just_exec.specs.declared.error.Error.{Error}
use Rattle.just_exec.specs.declared.error.Error.TheVariants as error
use Rattle.just_cli_children.specs.Words.{words_in}

-- ---- the program

-- the one that is run where none is given: it shows the recipe of the line that is looked at
abbrev pub default_chooser : List ℕ → List ℕ
default_chooser justfile = codes "fzf --multi --preview 'just --unstable --color always --justfile \"" ++ (justfile ++ codes "\" --show {}'")

-- that of a configuration, for the justfile of that path
abbrev pub chooser_of : Config → List ℕ → List ℕ
chooser_of c justfile = unwrap_or c.chooser (default_chooser justfile)

-- ---- its answer

-- The words that a chooser answers which ended so and printed that. There are none where it ended with the code 130, by which choosing is given up.
abbrev pub words_of_code : List ℕ → Status → List ℕ → Result (List (List ℕ)) Error
words_of_code chooser (status.Code z) printed =
    if int_eq z (pos 0) then Ok (words_in (utf8_lossy printed)) else (if int_eq z (pos 130) then Ok [] else Err (error.ChooserStatus chooser (status.Code z)))
words_of_code chooser (status.Signal number) printed = Err (error.ChooserStatus chooser (status.Signal number))
words_of_code chooser status.Unknown printed = Err (error.ChooserStatus chooser status.Unknown)

-- arguments with a blank between two of them
abbrev pub arguments_text : List (List ℕ) → List ℕ
arguments_text [] = []
arguments_text (argument ∷ arguments) = spaced argument arguments

-- The error of a chooser that a failed call didn't run to its end, whose shell is that with these arguments: the shell wasn't started, the lines weren't
-- written to the chooser, or what it printed wasn't read.
abbrev pub failed_error : List ℕ → List ℕ → List ℕ → Call → Error
failed_error shell arguments chooser call.Start = error.ChooserInvoke shell arguments chooser (fault.Failed call.Start)
failed_error shell arguments chooser call.Write = error.ChooserWrite chooser (fault.Failed call.Write)
failed_error shell arguments chooser call.Capture = error.ChooserRead chooser (fault.Failed call.Capture)
failed_error shell arguments chooser call.Meta = error.ChooserRead chooser (fault.Failed call.Meta)
failed_error shell arguments chooser call.List = error.ChooserRead chooser (fault.Failed call.List)
failed_error shell arguments chooser call.Canonical = error.ChooserRead chooser (fault.Failed call.Canonical)
failed_error shell arguments chooser call.Link = error.ChooserRead chooser (fault.Failed call.Link)
failed_error shell arguments chooser call.Current = error.ChooserRead chooser (fault.Failed call.Current)
failed_error shell arguments chooser call.Read = error.ChooserRead chooser (fault.Failed call.Read)
failed_error shell arguments chooser call.Input = error.ChooserRead chooser (fault.Failed call.Input)
failed_error shell arguments chooser call.Ask = error.ChooserRead chooser (fault.Failed call.Ask)
failed_error shell arguments chooser call.Environ = error.ChooserRead chooser (fault.Failed call.Environ)
failed_error shell arguments chooser call.MakeFolder = error.ChooserRead chooser (fault.Failed call.MakeFolder)
failed_error shell arguments chooser call.Temp = error.ChooserRead chooser (fault.Failed call.Temp)
failed_error shell arguments chooser call.Remove = error.ChooserRead chooser (fault.Failed call.Remove)
failed_error shell arguments chooser call.Print = error.ChooserRead chooser (fault.Failed call.Print)
failed_error shell arguments chooser call.Sum = error.ChooserRead chooser (fault.Failed call.Sum)
failed_error shell arguments chooser call.Probe = error.ChooserRead chooser (fault.Failed call.Probe)
failed_error shell arguments chooser call.Check = error.ChooserRead chooser (fault.Failed call.Check)
failed_error shell arguments chooser call.Save = error.ChooserRead chooser (fault.Failed call.Save)
failed_error shell arguments chooser call.Wait = error.ChooserRead chooser (fault.Failed call.Wait)

-- the same for any refusal; a miss is one of what it printed, and want of memory is told as itself
abbrev pub refusal_error : List ℕ → List ℕ → List ℕ → HostFault → Error
refusal_error shell arguments chooser (fault.Missed m) = error.ChooserRead chooser (fault.Missed m)
refusal_error shell arguments chooser (fault.Failed c) = failed_error shell arguments chooser c
refusal_error shell arguments chooser fault.NoMemory = error.NoMemory

abbrev pub chooser_error : Interpreter → List ℕ → HostFault → Error
chooser_error shell chooser io = refusal_error shell.command (arguments_text shell.arguments) chooser io

-- ---- its child

-- A chooser's child was run to its end by that shell in that folder. It was fed that; it may have touched the files, unless the host tells that it leaves them
-- alone; and no signal is told behind it, since a host isn't asked for signals.
pub record IsChosenBy (shell : Interpreter) (folder : List ℕ) (told : Option World) (chooser input : List ℕ) (c : Capture) : Type 0 where
  pub spec : c.spec ≡ command_spec shell folder chooser
  pub fed : c.input ≡ input
  pub unsignalled : c.signal ≡ None
  pub left : LeavesWorld told c

-- it isn't run to its end for that reason; want of memory is none
abbrev pub IsUnchosen : List ℕ → HostFault → Type 0
IsUnchosen input io = IsCaptureRefusal input io × (io ≢ fault.NoMemory)

-- the words that a chooser answers: its child is run to its end, once; or it isn't
pub data RunsChooser (shell : Interpreter) (folder : List ℕ) (told : Option World) (chooser input : List ℕ) (cs : List Capture) (r : Result (List (List ℕ)) Error) : Type 0 where
  captured : (c : Capture) → IsChosenBy shell folder told chooser input c → cs ≡ c ∷ [] → r ≡ words_of_code chooser c.status c.output → RunsChooser shell folder told chooser input cs r
  uncaptured : (io : HostFault) → IsUnchosen input io → cs ≡ [] → r ≡ Err (chooser_error shell chooser io) → RunsChooser shell folder told chooser input cs r

-- what was begun of it, where memory was wanting
pub data BeginsChooser (shell : Interpreter) (folder : List ℕ) (told : Option World) (chooser input : List ℕ) (cs : List Capture) : Type 0 where
  nothing : cs ≡ [] → BeginsChooser shell folder told chooser input cs
  a_child : (c : Capture) → IsChosenBy shell folder told chooser input c → cs ≡ c ∷ [] → BeginsChooser shell folder told chooser input cs
