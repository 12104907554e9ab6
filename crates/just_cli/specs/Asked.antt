-- What words ask for: one chain of steps from the words to a run, to what is no run, or to a refusal.
use Rattle.std.specs.Prelude.{ℕ, ◌≡◌, Bool, true, false, if◌then◌else◌, List, [], Option, Some, None, option_map, Result, Ok, Err}
use Rattle.just_path_text.specs.declared.environ.Environ.{Environ}
use Rattle.just_path.specs.declared.host.Miss.{Miss}
use Rattle.just_host_record.specs.declared.entry.Call.TheVariants as call
use Rattle.just_host_record.specs.declared.entry.Entry.{Entry}
use Rattle.just_host_record.specs.World.{World}
use Rattle.just_config_words.specs.declared.arguments.Arguments.{Arguments}
use Rattle.just_config_words.specs.declared.words.Read.{Read}
use Rattle.just_config_words.specs.declared.words.Read.TheVariants as read
use Rattle.just_config_words.specs.Words.{Means}
use Rattle.just_exec.specs.declared.error.Error.{Error}
use Rattle.just_cli_plan.specs.Request.{Outline}
use Rattle.just_cli_texts.specs.declared.kind.Kind.{Kind}
use Rattle.just_cli_texts.specs.declared.kind.Kind.TheVariants as kind
use Rattle.just_cli_texts.specs.declared.printed.Printed.{Printed}
use Rattle.just_cli_texts.specs.Kinds.{kind_of, reads_justfile, words_of}
use Rattle.just_cli_texts.specs.Prints.{as_printed}
use Rattle.just_cli_texts.specs.Responses.{requested, responded}
use Rattle.just_cli_vectors.specs.Vectors.{count_of}
use Rattle.just_cli.specs.declared.task.Other.{Other}
use Rattle.just_cli.specs.declared.task.Other.TheVariants as no_run
use Rattle.just_cli.specs.Acts.{Act, Step, Begun, NoAct, Looks, Behind, BeginsBehind}
use Rattle.just_cli_children.specs.Faults.{CallGives, io_error, folder_error}
use Rattle.just_cli.specs.Choosing.{ChoosesAt, BeginsChoosesAt}
use Rattle.just_cli.specs.Commands.{as_shown, CommandsAt, BeginsCommand}
use Rattle.just_cli.specs.NewPath.{FindsFree}
use Rattle.just_cli.specs.Replies.{Reply}
use Rattle.just_cli.specs.Request.{Tries, BeginsTries}
use Rattle.just_cli.specs.Words.{ReadRequest, ArgumentsRequest, ConfigRequest, LocatedRequest, FindsEnviron, ReadsWords, FindsFolder, Configures, FindsLocation, FindsJustfile}

-- What is asked for: what is no run; the listing of a module in the place of a run; a run of that outline; or a dry run of it.
pub data Asked : Type 0 where
  other : Other → Asked
  listing : Printed → Asked
  run : Outline → Asked
  dry : Outline → Asked

-- ---- the host's calls

-- what a world shows of its environment and of its current folder
abbrev pub environ_shown : World → Result Environ Miss
environ_shown w = Ok (record { pairs = w.environ })

abbrev pub folder_shown : World → Result (List ℕ) Miss
folder_shown w = Ok w.current

abbrev pub EnvironGiven : Option World → Result Environ Error → Type 0
EnvironGiven told = CallGives call.Environ (io_error []) (option_map environ_shown told)

abbrev pub FolderGiven : Option World → Result (List ℕ) Error → Type 0
FolderGiven told = CallGives call.Current folder_error (option_map folder_shown told)

-- ---- behind the configuration

-- a plan is run, or only told
abbrev pub as_run : Bool → Outline → Asked
as_run only_told o = if only_told then Asked.dry o else Asked.run o

-- what the justfiles answer that are tried
abbrev pub as_reply : Bool → Result Reply Error → Result Asked Error
as_reply only_told (Ok (Reply.lists p)) = Ok (Asked.listing p)
as_reply only_told (Ok (Reply.runs o)) = Ok (as_run only_told o)
as_reply only_told (Err e) = Err e

abbrev pub RunsTried : Step LocatedRequest Asked
RunsTried told acts after q r = (x : Result Reply Error) × Tries told acts after q x × (r ≡ as_reply q.config.dry_run x)

-- what they answer to the words that are chosen; where none are, nothing is left to be done
abbrev pub as_choice : Bool → Result (Option Reply) Error → Result Asked Error
as_choice only_told (Ok None) = Ok (Asked.other no_run.Nothing)
as_choice only_told (Ok (Some x)) = as_reply only_told (Ok x)
as_choice only_told (Err e) = Err e

abbrev pub ChoosesTried : Step LocatedRequest Asked
ChoosesTried told acts after q r = (x : Result (Option Reply) Error) × ChoosesAt told acts after q x × (r ≡ as_choice q.config.dry_run x)

-- what a command asks for
abbrev pub as_other : Result Other Error → Result Asked Error
as_other (Ok c) = Ok (Asked.other c)
as_other (Err e) = Err e

abbrev pub CommandAsks : Kind → Step LocatedRequest Asked
CommandAsks k told acts after q r = (x : Result Other Error) × CommandsAt k told acts after q x × (r ≡ as_other x)

-- words without a command ask the justfiles that are tried, and so do words that are chosen; a command asks the one in the place
abbrev pub AsksBy : Kind → Step LocatedRequest Asked
AsksBy kind.Run told acts after q r = RunsTried told acts after q r
AsksBy kind.New told acts after q r = CommandAsks kind.New told acts after q r
AsksBy kind.Respond told acts after q r = CommandAsks kind.Respond told acts after q r
AsksBy kind.Vectors told acts after q r = CommandAsks kind.Vectors told acts after q r
AsksBy kind.Format told acts after q r = CommandAsks kind.Format told acts after q r
AsksBy kind.Clean told acts after q r = CommandAsks kind.Clean told acts after q r
AsksBy kind.Evaluate told acts after q r = CommandAsks kind.Evaluate told acts after q r
AsksBy kind.Print told acts after q r = CommandAsks kind.Print told acts after q r
AsksBy kind.Edit told acts after q r = CommandAsks kind.Edit told acts after q r
AsksBy kind.Command told acts after q r = CommandAsks kind.Command told acts after q r
AsksBy kind.Choose told acts after q r = ChoosesTried told acts after q r

abbrev pub AsksAt : Step LocatedRequest Asked
AsksAt told acts after q r = AsksBy (kind_of q.config.subcommand) told acts after q r

abbrev pub Searches : List Entry → Step ConfigRequest Asked
Searches listings = Behind (Looks (λ told. FindsJustfile (FindsLocation told listings))) AsksAt

-- a new justfile at the path that is free for it
abbrev pub as_new : Result (List ℕ) Error → Result Asked Error
as_new (Ok path) = Ok (Asked.other (no_run.Init path))
as_new (Err e) = Err e

-- the response to a request
abbrev pub Responds : ConfigRequest → Result Asked Error → Type 0
Responds c r = r ≡ as_other (as_shown (as_printed (responded c.environ.pairs (requested (words_of c.config.subcommand)))))

-- so many recipes, whose run over a host in memory is told of
abbrev pub Counts : ConfigRequest → Result Asked Error → Type 0
Counts c r = r ≡ Ok (Asked.other (no_run.Vectors (count_of (words_of c.config.subcommand))))

-- a command that reads no justfile: a new justfile, the response to a request, or the run of so many recipes
abbrev pub AsksAlone : Kind → Option World → ConfigRequest → Result Asked Error → Type 0
AsksAlone kind.New told c r = (x : Result (List ℕ) Error) × FindsFree told c.config x × (r ≡ as_new x)
AsksAlone kind.Respond told c r = Responds c r
AsksAlone kind.Vectors told c r = Counts c r
AsksAlone kind.Run told c r = ⊥
AsksAlone kind.Format told c r = ⊥
AsksAlone kind.Clean told c r = ⊥
AsksAlone kind.Evaluate told c r = ⊥
AsksAlone kind.Print told c r = ⊥
AsksAlone kind.Edit told c r = ⊥
AsksAlone kind.Command told c r = ⊥
AsksAlone kind.Choose told c r = ⊥

-- A command that reads no justfile is decided by itself, behind the configuration, and nothing is listed for it; else the justfile is searched.
pub data Decides (listings : List Entry) (told : Option World) (acts : List Act) (after : Option World) (c : ConfigRequest) (r : Result Asked Error) : Type 0 where
  reads_none : reads_justfile (kind_of c.config.subcommand) ≡ false → listings ≡ [] → Looks (AsksAlone (kind_of c.config.subcommand)) told acts after c r → Decides listings told acts after c r
  reads_one : reads_justfile (kind_of c.config.subcommand) ≡ true → Searches listings told acts after c r → Decides listings told acts after c r

-- ---- the whole chain

-- the steps behind arguments
abbrev pub Serves : List Entry → Step ArgumentsRequest Asked
Serves listings = Behind (Looks (λ told. FindsFolder (FolderGiven told))) (Behind (Looks (λ told. Configures)) (Decides listings))

-- what words ask for that are read so: the help and the version are asked for by the words alone
abbrev pub AsksAs : List Entry → Read → Environ → Option World → List Act → Option World → Result Asked Error → Type 0
AsksAs listings read.Help environ told acts after r = (acts ≡ []) × (after ≡ told) × (r ≡ Ok (Asked.other no_run.Help))
AsksAs listings read.Version environ told acts after r = (acts ≡ []) × (after ≡ told) × (r ≡ Ok (Asked.other no_run.Version))
AsksAs listings (read.Go a) environ told acts after r = Serves listings told acts after (record { arguments = a; environ = environ }) r

abbrev pub AsksRead : List Entry → Step ReadRequest Asked
AsksRead listings told acts after q r = AsksAs listings q.meaning q.environ told acts after r

-- Over a host that tells the first world before and the second behind, if it tells any, which did these acts, and whose record gained these entries of
-- listings that were refused as the user's own justfile was looked for, the words ask for that, or are refused so. A call of the host that fails is a
-- refusal too, but a listing among these; over a host that tells no world its calls may answer anything.
abbrev pub Asks : List (List ℕ) → Option World → List Entry → List Act → Option World → Result Asked Error → Type 0
Asks words told listings acts after r =
    Behind (Looks (λ told. FindsEnviron (EnvironGiven told))) (Behind (Looks (λ told. ReadsWords)) (AsksRead listings)) told acts after words r

-- over such a host the words of a run ask for the user's own justfile
abbrev pub AsksGlobal : List (List ℕ) → Option World → Type 0
AsksGlobal words told = (environ : Environ) × (a : Arguments) × EnvironGiven told (Ok environ) × Means words environ.pairs (Ok (read.Go a)) × (a.global_justfile ≡ true)

-- ---- what was begun, where memory was wanting

-- of the steps behind the configuration, and behind arguments; a command that reads no justfile takes no act
abbrev pub BeginsBy : Kind → Begun LocatedRequest
BeginsBy kind.Run told acts after q = BeginsTries told acts after q
BeginsBy kind.New told acts after q = BeginsCommand kind.New told acts after q
BeginsBy kind.Respond told acts after q = BeginsCommand kind.Respond told acts after q
BeginsBy kind.Vectors told acts after q = BeginsCommand kind.Vectors told acts after q
BeginsBy kind.Format told acts after q = BeginsCommand kind.Format told acts after q
BeginsBy kind.Clean told acts after q = BeginsCommand kind.Clean told acts after q
BeginsBy kind.Evaluate told acts after q = BeginsCommand kind.Evaluate told acts after q
BeginsBy kind.Print told acts after q = BeginsCommand kind.Print told acts after q
BeginsBy kind.Edit told acts after q = BeginsCommand kind.Edit told acts after q
BeginsBy kind.Command told acts after q = BeginsCommand kind.Command told acts after q
BeginsBy kind.Choose told acts after q = BeginsChoosesAt told acts after q

abbrev pub BeginsAsks : Begun LocatedRequest
BeginsAsks told acts after q = BeginsBy (kind_of q.config.subcommand) told acts after q

abbrev pub BeginsSearches : List Entry → Begun ConfigRequest
BeginsSearches listings told acts after c =
    (reads_justfile (kind_of c.config.subcommand) ≡ true) × BeginsBehind NoAct (Looks (λ told. FindsJustfile (FindsLocation told listings))) BeginsAsks told acts after c

abbrev pub BeginsServes : List Entry → Begun ArgumentsRequest
BeginsServes listings = BeginsBehind NoAct (Looks (λ told. FindsFolder (FolderGiven told))) (BeginsBehind NoAct (Looks (λ told. Configures)) (BeginsSearches listings))

-- of what words ask for that are read so
abbrev pub BeginsAs : List Entry → Read → Environ → Option World → List Act → Option World → Type 0
BeginsAs listings read.Help environ told acts after = (acts ≡ []) × (after ≡ told)
BeginsAs listings read.Version environ told acts after = (acts ≡ []) × (after ≡ told)
BeginsAs listings (read.Go a) environ told acts after = BeginsServes listings told acts after (record { arguments = a; environ = environ })

abbrev pub BeginsRead : List Entry → Begun ReadRequest
BeginsRead listings told acts after q = BeginsAs listings q.meaning q.environ told acts after

-- of what words ask for: so far it is what it would be with memory
abbrev pub Begins : List (List ℕ) → Option World → List Entry → List Act → Option World → Type 0
Begins words told listings acts after =
    BeginsBehind NoAct (Looks (λ told. FindsEnviron (EnvironGiven told))) (BeginsBehind NoAct (Looks (λ told. ReadsWords)) (BeginsRead listings)) told acts after words
