-- The pairs that commands give: each is run to its end, and what it prints is read as the text of a file is.
use Rattle.std.specs.Prelude.{ℕ, ◌≡◌, true, false, if◌then◌else◌, List, [], ◌∷◌, ◌++◌, chars, Option, Some, None, Result, Ok, Err, pos}
use Rattle.std.specs.Ordering.{int_eq}
use Rattle.std.specs.Str.{is_utf8}
use Rattle.just_lang_types.specs.declared.settings.Interpreter.{Interpreter}
use Rattle.just_path.specs.declared.host.Miss.TheVariants as miss
use Rattle.just_host_record.specs.declared.entry.HostFault.{HostFault}
use Rattle.just_host_record.specs.declared.entry.HostFault.TheVariants as fault
use Rattle.just_host_record.specs.declared.entry.Spec.{Spec}
use Rattle.just_host_record.specs.declared.entry.Status.{Status}
use Rattle.just_host_record.specs.declared.entry.Status.TheVariants as status
use Rattle.just_host_record.specs.Record.{IsCaptureRefusal}
use Rattle.just_host_record.specs.World.{World}
use Rattle.just_dotenv.specs.File.{Gives, Stops}
use Rattle.just_dotenv.specs.Meaning.{Pairs}
use Rattle.just_env.specs.declared.env_error.EnvError.{EnvError}
use Rattle.just_env.specs.declared.env_error.EnvError.TheVariants as error
use Rattle.just_env.specs.declared.env_error.OutputError.{OutputError}
use Rattle.just_env.specs.declared.env_error.OutputError.TheVariants as output
use Rattle.just_env.specs.Captures.{Capture, told_behind, LeavesWorld}

-- the child of a command: the shell with its arguments, and behind them the command, in that folder. It has the environment of the run
abbrev pub command_spec : Interpreter → List ℕ → List ℕ → Spec
command_spec shell folder command =
    record { program = shell.command; arguments = shell.arguments ++ command ∷ []; folder = Some folder; changes = []; script = None }

-- why the output of a child with that ending isn't read: it didn't end with the code 0
abbrev pub ending_error : Status → Option OutputError
ending_error (status.Code n) = if int_eq n (pos 0) then None else Some (output.Code n)
ending_error (status.Signal n) = Some (output.Signal n)
ending_error status.Unknown = Some output.Unknown

-- The pairs of what the child of a command printed, which are those of its text; or why there are none: its ending, that what it printed is no text,
-- or the line for which the text is refused. That refusal names the folder.
pub data GivesPairs (environ : Pairs) (folder command : List ℕ) (ending : Status) (printed : List ℕ) : Result Pairs EnvError → Type 0 where
  readable : (pairs : Pairs) → ending_error ending ≡ None → is_utf8 printed ≡ true → Gives (chars printed) environ pairs → GivesPairs environ folder command ending printed (Ok pairs)
  faulty : (line : ℕ) → ending_error ending ≡ None → is_utf8 printed ≡ true → Stops (chars printed) line → GivesPairs environ folder command ending printed (Err (error.Dotenv folder line))
  no_text : ending_error ending ≡ None → is_utf8 printed ≡ false → GivesPairs environ folder command ending printed (Err (error.DotenvCommand command output.Utf8))
  ended : (e : OutputError) → ending_error ending ≡ Some e → GivesPairs environ folder command ending printed (Err (error.DotenvCommand command e))

-- a capture without input is refused: it failed, or what the child printed is too large; want of memory is no refusal
abbrev pub IsUncaptured : HostFault → Type 0
IsUncaptured (fault.Missed m) = m ≡ miss.TooLarge
IsUncaptured (fault.Failed c) = IsCaptureRefusal [] (fault.Failed c)
IsUncaptured fault.NoMemory = ⊥

-- A command's child was run to its end. It was fed nothing; it may have touched the files, unless the host tells that it
-- leaves them alone; and no signal is told behind it, since a host isn't asked for signals.
pub record IsCaptured (shell : Interpreter) (folder : List ℕ) (told : Option World) (command : List ℕ) (c : Capture)
    : Type 0 where
  pub spec : c.spec ≡ command_spec shell folder command
  pub unfed : c.input ≡ []
  pub unsignalled : c.signal ≡ None
  pub left : LeavesWorld told c

-- one command: its child is run to its end, or it isn't
pub data RunsCommand (environ : Pairs) (shell : Interpreter) (folder : List ℕ) (told : Option World) (command : List ℕ) : List Capture → Result Pairs EnvError → Type 0 where
  captured : (c : Capture) (r : Result Pairs EnvError) → IsCaptured shell folder told command c
      → GivesPairs environ folder command c.status c.output r
      → RunsCommand environ shell folder told command (c ∷ []) r
  uncaptured : (io : HostFault) → IsUncaptured io → RunsCommand environ shell folder told command [] (Err (error.DotenvCommand command (output.Io io)))

-- pairs before those of the commands behind
abbrev pub before_pairs : Pairs → Result Pairs EnvError → Result Pairs EnvError
before_pairs pairs (Ok others) = Ok (pairs ++ others)
before_pairs pairs (Err e) = Err e

-- the pairs of some commands, one behind the other, or the first refusal; with the children that were run to their end for them
pub data RunsCommands (environ : Pairs) (shell : Interpreter) (folder : List ℕ) : Option World → List (List ℕ) → List Capture → Result Pairs EnvError → Type 0 where
  none : (told : Option World) → RunsCommands environ shell folder told [] [] (Ok [])
  more : (told : Option World) (command : List ℕ) (commands : List (List ℕ)) (cs ds : List Capture) (pairs : Pairs) (r : Result Pairs EnvError) → RunsCommand environ shell folder told command cs (Ok pairs)
      → RunsCommands environ shell folder (told_behind told cs) commands ds r → RunsCommands environ shell folder told (command ∷ commands) (cs ++ ds) (before_pairs pairs r)
  refused : (told : Option World) (command : List ℕ) (commands : List (List ℕ)) (cs : List Capture) (e : EnvError) → RunsCommand environ shell folder told command cs (Err e)
      → RunsCommands environ shell folder told (command ∷ commands) cs (Err e)

-- ---- what was begun

-- of one command: its child is run to its end, or it isn't
pub data BeginsCommand (shell : Interpreter) (folder : List ℕ) (told : Option World) (command : List ℕ) : List Capture → Type 0 where
  nothing : BeginsCommand shell folder told command []
  a_child : (c : Capture) → IsCaptured shell folder told command c → BeginsCommand shell folder told command (c ∷ [])

-- of some commands, one behind the other: each but the last of those for which a child was run gave its pairs
pub data BeginsCommands (environ : Pairs) (shell : Interpreter) (folder : List ℕ) : Option World → List (List ℕ) → List Capture → Type 0 where
  nothing_more : (told : Option World) (commands : List (List ℕ)) → BeginsCommands environ shell folder told commands []
  the_last : (told : Option World) (command : List ℕ) (commands : List (List ℕ)) (cs : List Capture) → BeginsCommand shell folder told command cs
      → BeginsCommands environ shell folder told (command ∷ commands) cs
  one_before : (told : Option World) (command : List ℕ) (commands : List (List ℕ)) (cs ds : List Capture) (pairs : Pairs)
      → RunsCommand environ shell folder told command cs (Ok pairs) → BeginsCommands environ shell folder (told_behind told cs) commands ds
      → BeginsCommands environ shell folder told (command ∷ commands) (cs ++ ds)
