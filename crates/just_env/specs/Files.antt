-- The pairs of dotenv files, over a host that tells a world or tells none.
use Rattle.std.specs.Prelude.{ℕ, ◌≡◌, Bool, true, false, List, [], ◌∷◌, ◌++◌, map, chars, Option, Some, None, Result, Ok, Err, MatchOption}
use Rattle.just_path.specs.Path.{pushed}
use Rattle.just_path.specs.declared.host.Miss.{Miss}
use Rattle.just_path.specs.declared.host.Miss.TheVariants as miss
use Rattle.just_host_record.specs.declared.entry.Call.TheVariants as call
use Rattle.just_host_record.specs.declared.entry.HostFault.{HostFault}
use Rattle.just_host_record.specs.declared.entry.HostFault.TheVariants as fault
use Rattle.just_host_record.specs.World.{World, told_read}
use Rattle.just_dotenv.specs.File.{Gives, Stops}
use Rattle.just_dotenv.specs.Meaning.{Pairs}
use Rattle.just_env.specs.declared.env_error.EnvError.{EnvError}
use Rattle.just_env.specs.declared.env_error.EnvError.TheVariants as error
use Rattle.just_env.specs.Sequences.{Each}

-- ---- one file

-- a miss by which no file is there; a folder in its place is none
abbrev pub is_absence : Miss → Bool
is_absence miss.NotFound = true
is_absence miss.NotFolder = true
is_absence miss.IsFolder = true
is_absence miss.NotUtf8 = false
is_absence miss.NotEmpty = false
is_absence miss.TooLarge = false

-- a read is refused: it failed, or what is there can't be read as a text, as the world shows where one is told
abbrev pub RefusesRead : Option World → List ℕ → HostFault → Type 0
RefusesRead told path (fault.Missed m) = (is_absence m ≡ false) × MatchOption told (Unit {0}) (λ w. told_read w path ≡ Err m)
RefusesRead told path (fault.Failed c) = c ≡ call.Read
RefusesRead told path fault.NoMemory = ⊥

-- the text of the file at a path, if one is there
abbrev pub FindsText : Option World → List ℕ → Result (Option (List ℕ)) EnvError → Type 0
FindsText told path (Ok (Some text)) = MatchOption told (Unit {0}) (λ w. told_read w path ≡ Ok text)
FindsText told path (Ok None) = (m : Miss) × (is_absence m ≡ true) × MatchOption told (Unit {0}) (λ w. told_read w path ≡ Err m)
FindsText told path (Err e) = (io : HostFault) × (e ≡ error.Io io path) × RefusesRead told path io

-- the pairs of the file at a path, if one is there; or the line for which its text is refused
pub data LoadsFile (told : Option World) (environ : Pairs) (path : List ℕ) : Result (Option Pairs) EnvError → Type 0 where
  absent : FindsText told path (Ok None) → LoadsFile told environ path (Ok None)
  there : (text : List ℕ) (pairs : Pairs) → FindsText told path (Ok (Some text)) → Gives (chars text) environ pairs → LoadsFile told environ path (Ok (Some pairs))
  faulty : (text : List ℕ) (line : ℕ) → FindsText told path (Ok (Some text)) → Stops (chars text) line → LoadsFile told environ path (Err (error.Dotenv path line))
  unread : (e : EnvError) → FindsText told path (Err e) → LoadsFile told environ path (Err e)

-- ---- several files

-- the pairs of two files, of those that are there
abbrev pub join : Option Pairs → Option Pairs → Option Pairs
join None found = found
join (Some pairs) None = Some pairs
join (Some pairs) (Some more) = Some (pairs ++ more)

-- the pairs of some files, one behind the other; nothing where none is there
abbrev pub joined : List (Option Pairs) → Option Pairs
joined [] = None
joined (found ∷ others) = join found (joined others)

-- the pairs of all files at some paths, or the first refusal
abbrev pub LoadsFiles : Option World → Pairs → List (List ℕ) → Result (Option Pairs) EnvError → Type 0
LoadsFiles told environ paths (Ok found) = (each : List (Option Pairs)) × Each (LoadsFile told environ) paths (Ok each) × (found ≡ joined each)
LoadsFiles told environ paths (Err e) = Each (LoadsFile told environ) paths (Err e)

-- some paths, each under a folder
abbrev pub all_under : List ℕ → List (List ℕ) → List (List ℕ)
all_under folder paths = map (λ path. pushed folder path) paths

-- the same of files under a folder
abbrev pub LoadsUnder : Option World → Pairs → List (List ℕ) → List ℕ → Result (Option Pairs) EnvError → Type 0
LoadsUnder told environ names folder r = LoadsFiles told environ (all_under folder names) r
