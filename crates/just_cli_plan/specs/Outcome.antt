-- The error of a node that failed.
use Rattle.std.specs.Prelude.{ℕ, ◌≡◌, ◌-◌, ◌⊎◌, Bool, true, false, if◌then◌else◌, ℤ, List, [], ◌∷◌, codes, length, slice_get, slice_index_or, Option, Some, None, MatchOption}
use Rattle.std.specs.List.{last_or}
use Rattle.std.specs.Option.{unwrap_or}
use Rattle.just_path.specs.declared.host.Miss.{Miss}
use Rattle.just_path.specs.declared.host.Miss.TheVariants as miss
use Rattle.just_host_record.specs.declared.entry.Call.{Call}
use Rattle.just_host_record.specs.declared.entry.Call.TheVariants as call
use Rattle.just_host_record.specs.declared.entry.HostFault.TheVariants as fault
use Rattle.just_host_record.specs.declared.entry.Look.{Look}
use Rattle.just_host_record.specs.declared.entry.Script.{Script}
use Rattle.just_host_record.specs.declared.entry.Spec.{Spec}
use Rattle.just_host_record.specs.declared.entry.HostFault.{HostFault}
use Rattle.just_host_record.specs.declared.entry.Status.{Status}
use Rattle.just_host_record.specs.declared.entry.Status.TheVariants as status
use Rattle.just_host_record.specs.Record.{text_or_empty}
use Rattle.just_sched_history.specs.declared.event.Event.{Event}
use Rattle.just_sched_history.specs.declared.event.Reason.{Reason}
use Rattle.just_sched_history.specs.declared.event.Verdict.{Verdict}
use Rattle.just_sched_history.specs.declared.event.Verdict.TheVariants as verdict
use Rattle.just_sched_history.specs.declared.event.Reason.TheVariants as reason
use Rattle.just_sched_history.specs.declared.plan_node.PlanNode.{PlanNode}
use Rattle.just_sched_history.specs.declared.cache_plan.CachePlan.{CachePlan}
use Rattle.just_sched_history.specs.Cached.{entry_of, seen_at}
use Rattle.just_sched_history.specs.Nodes.{paths_in, outputs_in}
use Rattle.just_sched_history.specs.State.{reason_of, statuses}
use Rattle.just_exec_work.specs.declared.work.Command.{Command}
use Rattle.just_exec_work.specs.declared.work.Work.{Work}
use Rattle.just_exec_work.specs.declared.work.Work.TheVariants as work
use Rattle.just_exec_work.specs.Steps.{commands_of}
use Rattle.just_exec.specs.Caches.{first_of}
use Rattle.just_exec.specs.Executors.{spaced}
use Rattle.just_exec.specs.declared.error.Error.{Error}
use Rattle.just_exec.specs.declared.error.Error.TheVariants as error

-- the name of a node's recipe: the last part of its path
abbrev pub name_of : PlanNode → List ℕ
name_of x = text_or_empty (slice_get x.node.key.recipe.components (length x.node.key.recipe.components - 1))

-- the line of a command, if it is one of a line
abbrev pub line_of : Option Command → Option ℕ
line_of (Some c) = c.line
line_of None = None

abbrev pub is_guard : Option Command → Bool
is_guard (Some c) = c.guard
is_guard None = false

-- the error of a code: a guard stands in a line
abbrev pub code_error : List ℕ → Bool → Bool → Option ℕ → ℤ → Error
code_error name message true (Some n) z = error.GuardCode name n z
code_error name message true None z = error.Code name None z message
code_error name message false line z = error.Code name line z message

-- the error of a command that ended so; the message of a code is told or isn't
abbrev pub status_error : List ℕ → Bool → Option Command → Status → Error
status_error name message c (status.Code z) = code_error name message (is_guard c) (line_of c) z
status_error name message c (status.Signal s) = error.Signal name (line_of c) s
status_error name message c status.Unknown = error.Unknown name (line_of c)

-- the error of the command that ended last; there is one where a status failed the body
abbrev pub last_error : PlanNode → Bool → List Status → Option Status → Error
last_error x message ss (Some s) = status_error (name_of x) message (slice_get (commands_of x.work) (length ss - 1)) s
last_error x message ss None = error.NoMemory

-- the program of a command, if there is one
abbrev pub program_of : Option Command → List ℕ
program_of (Some c) = c.spec.program
program_of None = []

-- the shell of the command behind those that ended: the one that was to start, or that ran
abbrev pub shell_of : PlanNode → List Status → List ℕ
shell_of x ss = program_of (slice_get (commands_of x.work) (length ss))

-- ---- what couldn't be started or waited for

-- a script that is run by itself is told by what its first line names, any other by its command and the command's arguments
abbrev pub script_error : List ℕ → Spec → Option Script → HostFault → Error
script_error name spec (Some s) io = if s.run then error.Shebang name spec.program (first_of spec.arguments) io else error.Script name (spaced spec.program spec.arguments) io
script_error name spec None io = error.Script name (spaced spec.program spec.arguments) io

-- the error of a child that couldn't be started or waited for, by what the body has to run
abbrev pub lost_error : PlanNode → List Status → Work → HostFault → Error
lost_error x ss (work.Lines commands) io = error.ShellIo (name_of x) (shell_of x ss) io
lost_error x ss (work.Script c) io = script_error (name_of x) c.spec c.spec.script io
lost_error x ss work.Empty io = error.ShellIo (name_of x) (shell_of x ss) io

-- ---- caches

-- the folder of a cache's entries; empty where there is no cache
abbrev pub entries_folder : Option CachePlan → List ℕ
entries_folder (Some c) = c.folder
entries_folder None = []

-- the path of the entry that was looked at; empty where none was
abbrev pub entry_seen : Option CachePlan → Option (List (List ℕ) × Look) → List ℕ
entry_seen (Some c) (Some seen) = entry_of c seen.0
entry_seen (Some c) None = []
entry_seen None seen = []

-- the error of an input of that path that is a miss
abbrev pub input_error : List ℕ → Miss → Error
input_error path miss.NotFound = error.CacheInputMissing path
input_error path miss.IsFolder = error.CacheInputDirectory path
input_error path miss.NotFolder = error.FilesystemIo path (fault.Missed miss.NotFolder)
input_error path miss.NotUtf8 = error.FilesystemIo path (fault.Missed miss.NotUtf8)
input_error path miss.NotEmpty = error.FilesystemIo path (fault.Missed miss.NotEmpty)
input_error path miss.TooLarge = error.FilesystemIo path (fault.Missed miss.TooLarge)

-- ---- nodes that failed

-- what a history shows of a node: the statuses of its commands, and the sums and the look at its cache
pub record Shown : Type 0 where
  pub ended : List Status
  pub seen : Option (List (List ℕ) × Look)

abbrev pub shown_at : List Event → ℕ → Shown
shown_at h n = record { ended = statuses h n; seen = seen_at h n }

-- the error of a body that a miss of that call ended; that of a prompt names standard input, that of an entry that is saved the entry, and others
-- the folder of the cache
abbrev pub miss_error : PlanNode → Shown → Call → Miss → Error
miss_error x s call.Ask m = error.FilesystemIo (codes "-") (fault.Missed m)
miss_error x s call.Temp m = error.TempdirIo (name_of x) (fault.Missed m)
miss_error x s call.Save m = error.FilesystemIo (entry_seen x.cache s.seen) (fault.Missed m)
miss_error x s call.Meta m = error.FilesystemIo (entries_folder x.cache) (fault.Missed m)
miss_error x s call.List m = error.FilesystemIo (entries_folder x.cache) (fault.Missed m)
miss_error x s call.Canonical m = error.FilesystemIo (entries_folder x.cache) (fault.Missed m)
miss_error x s call.Link m = error.FilesystemIo (entries_folder x.cache) (fault.Missed m)
miss_error x s call.Current m = error.FilesystemIo (entries_folder x.cache) (fault.Missed m)
miss_error x s call.Read m = error.FilesystemIo (entries_folder x.cache) (fault.Missed m)
miss_error x s call.Input m = error.FilesystemIo (entries_folder x.cache) (fault.Missed m)
miss_error x s call.Environ m = error.FilesystemIo (entries_folder x.cache) (fault.Missed m)
miss_error x s call.Write m = error.FilesystemIo (entries_folder x.cache) (fault.Missed m)
miss_error x s call.MakeFolder m = error.FilesystemIo (entries_folder x.cache) (fault.Missed m)
miss_error x s call.Remove m = error.FilesystemIo (entries_folder x.cache) (fault.Missed m)
miss_error x s call.Print m = error.FilesystemIo (entries_folder x.cache) (fault.Missed m)
miss_error x s call.Sum m = error.FilesystemIo (entries_folder x.cache) (fault.Missed m)
miss_error x s call.Probe m = error.FilesystemIo (entries_folder x.cache) (fault.Missed m)
miss_error x s call.Check m = error.FilesystemIo (entries_folder x.cache) (fault.Missed m)
miss_error x s call.Start m = error.FilesystemIo (entries_folder x.cache) (fault.Missed m)
miss_error x s call.Wait m = error.FilesystemIo (entries_folder x.cache) (fault.Missed m)
miss_error x s call.Capture m = error.FilesystemIo (entries_folder x.cache) (fault.Missed m)

-- the error of a body that a failure of that call ended
abbrev pub fault_error : PlanNode → Shown → Call → Error
fault_error x s call.Ask = error.GetConfirmation (fault.Failed call.Ask)
fault_error x s call.Print = error.StdoutIo (fault.Failed call.Print)
fault_error x s call.Temp = error.TempdirIo (name_of x) (fault.Failed call.Temp)
fault_error x s call.Save = error.CacheEntryWrite (entry_seen x.cache s.seen) (fault.Failed call.Save)
fault_error x s call.Start = lost_error x s.ended x.work (fault.Failed call.Start)
fault_error x s call.Wait = lost_error x s.ended x.work (fault.Failed call.Wait)
fault_error x s call.Meta = error.FilesystemIo (entries_folder x.cache) (fault.Failed call.Meta)
fault_error x s call.List = error.FilesystemIo (entries_folder x.cache) (fault.Failed call.List)
fault_error x s call.Canonical = error.FilesystemIo (entries_folder x.cache) (fault.Failed call.Canonical)
fault_error x s call.Link = error.FilesystemIo (entries_folder x.cache) (fault.Failed call.Link)
fault_error x s call.Current = error.FilesystemIo (entries_folder x.cache) (fault.Failed call.Current)
fault_error x s call.Read = error.FilesystemIo (entries_folder x.cache) (fault.Failed call.Read)
fault_error x s call.Input = error.FilesystemIo (entries_folder x.cache) (fault.Failed call.Input)
fault_error x s call.Environ = error.FilesystemIo (entries_folder x.cache) (fault.Failed call.Environ)
fault_error x s call.Write = error.FilesystemIo (entries_folder x.cache) (fault.Failed call.Write)
fault_error x s call.MakeFolder = error.FilesystemIo (entries_folder x.cache) (fault.Failed call.MakeFolder)
fault_error x s call.Remove = error.FilesystemIo (entries_folder x.cache) (fault.Failed call.Remove)
fault_error x s call.Sum = error.FilesystemIo (entries_folder x.cache) (fault.Failed call.Sum)
fault_error x s call.Probe = error.FilesystemIo (entries_folder x.cache) (fault.Failed call.Probe)
fault_error x s call.Check = error.FilesystemIo (entries_folder x.cache) (fault.Failed call.Check)
fault_error x s call.Capture = error.FilesystemIo (entries_folder x.cache) (fault.Failed call.Capture)

-- the error of a node that failed for that reason; that of an interrupted one is told by the verdict alone
abbrev pub failure_error : PlanNode → Bool → Shown → Option Reason → Error
failure_error x message s (Some reason.Status) = last_error x message s.ended (last_or None s.ended)
failure_error x message s (Some reason.NotConfirmed) = error.NotConfirmed (name_of x)
failure_error x message s (Some (reason.Input j m)) = input_error (slice_index_or (paths_in x.cache) j []) m
failure_error x message s (Some (reason.Output j)) = error.CacheOutputMissing (name_of x) (slice_index_or (outputs_in x.cache) j [])
failure_error x message s (Some (reason.Place c m)) = miss_error x s c m
failure_error x message s (Some (reason.Fault c)) = fault_error x s c
failure_error x message s (Some reason.Interrupted) = error.NoMemory
failure_error x message s (Some reason.NoMemory) = error.NoMemory
failure_error x message s None = error.NoMemory

-- whether the message of a node's exit code is told
abbrev pub is_told : List Bool → ℕ → Bool
is_told messages n = unwrap_or (slice_get messages n) true

abbrev pub error_in : Option PlanNode → Bool → List Event → ℕ → Error
error_in (Some x) message h n = failure_error x message (shown_at h n) (reason_of h n)
error_in None message h n = error.NoMemory

-- the error of the node of that number
abbrev pub node_error : List PlanNode → List Bool → List Event → ℕ → Error
node_error nodes messages h n = error_in (slice_get nodes n) (is_told messages n) h n

abbrev pub is_filled : List ℕ → Bool
is_filled [] = false
is_filled (b ∷ bs) = true

-- whether a text is copied for an error: the name of a recipe, a path of its cache, or another path that isn't empty
abbrev pub copies_text : Error → Bool
copies_text (error.Usage u) = false
copies_text (error.Config c) = false
copies_text (error.CurrentDir io) = false
copies_text (error.Search s) = false
copies_text (error.Load path io) = false
copies_text (error.FilesystemIo path io) = is_filled path
copies_text error.MissingImportFile = false
copies_text (error.CircularImport current import) = false
copies_text (error.MissingModuleFile name) = false
copies_text (error.AmbiguousModuleFile name found) = false
copies_text error.Homedir = false
copies_text (error.Compile c) = false
copies_text (error.Const path line column) = false
copies_text (error.UnstableFeature feature) = false
copies_text error.DotenvRequired = false
copies_text (error.Dotenv path line) = false
copies_text error.DotenvArgumentsRequireLists = false
copies_text (error.DotenvCommand command output_error) = false
copies_text (error.UnknownOverrides overrides) = false
copies_text (error.FunctionCall name) = false
copies_text error.NoRecipes = false
copies_text error.NoDefaultRecipe = false
copies_text (error.DefaultRecipeRequiresArguments recipe min_arguments) = false
copies_text (error.UnknownRecipe recipe) = false
copies_text (error.UnknownSubmodule path) = false
copies_text (error.ModuleAbsent name) = false
copies_text (error.RecipeDisabled recipe modules) = false
copies_text (error.AliasDisabled alias modules) = false
copies_text (error.ExpectedSubmoduleButFoundRecipe path) = false
copies_text (error.UnknownOption recipe switch) = false
copies_text (error.InvalidOption argument) = false
copies_text (error.FlagWithValue recipe switch) = false
copies_text (error.NonFinalOptionWithValue recipe switch) = false
copies_text (error.OptionMissingValue recipe switch) = false
copies_text (error.DuplicateOption recipe switch) = false
copies_text (error.PositionalArgumentCountMismatch recipe path parameters found) = false
copies_text (error.MissingOption recipe switch) = false
copies_text (error.ArgumentTooFewValues recipe parameter found min) = false
copies_text (error.ArgumentTooManyValues recipe parameter found max) = false
copies_text (error.ArgumentPatternMismatch argument recipe parameter texts) = false
copies_text (error.EmptyListArgument recipe parameter) = false
copies_text (error.ExcessInvocations invocations) = false
copies_text (error.RecipeRequired subcommand) = false
copies_text (error.UnknownGroup group) = false
copies_text (error.EvalUnknownSubmodule submodule) = false
copies_text (error.EvalUnknownSubmoduleOrVariable name) = false
copies_text error.FormatCheckFoundDiff = false
copies_text error.NoChoosableRecipes = false
copies_text (error.ChooserInvoke shell arguments chooser io) = false
copies_text (error.ChooserRead chooser io) = false
copies_text (error.ChooserWrite chooser io) = false
copies_text (error.ChooserStatus chooser ending) = false
copies_text (error.EditorInvoke editor io) = false
copies_text (error.EditorStatus editor ending) = false
copies_text (error.CommandInvoke binary arguments io) = false
copies_text (error.CommandStatus binary arguments ending) = false
copies_text error.ClosureLimit = false
copies_text (error.InvalidShebang recipe shebang) = false
copies_text (error.Code recipe line code message) = true
copies_text (error.GuardCode recipe line code) = true
copies_text (error.Signal recipe line signal) = true
copies_text (error.Unknown recipe line) = true
copies_text (error.ShellIo recipe shell io) = true
copies_text (error.Script recipe command io) = true
copies_text (error.Shebang recipe command argument io) = true
copies_text (error.TempdirIo recipe io) = true
copies_text (error.CacheInputMissing path) = true
copies_text (error.CacheInputDirectory path) = true
copies_text (error.CacheOutputMissing recipe output) = true
copies_text (error.CacheEntryWrite path io) = true
copies_text (error.NotConfirmed recipe) = true
copies_text (error.GetConfirmation io) = false
copies_text (error.StdoutIo io) = false
copies_text (error.InitExists justfile) = false
copies_text (error.WriteJustfile justfile io) = false
copies_text (error.Interrupted signal) = false
copies_text error.NoMemory = false

-- that error; in place of one for which a text is copied memory may be wanting
abbrev pub IsToldAs : Error → Error → Type 0
IsToldAs wanted e = (e ≡ wanted) ⊎ ((copies_text wanted ≡ true) × (e ≡ error.NoMemory))

-- the error of a run of that verdict: none where it went well; that of the node that the verdict names; the caught signal;
-- or want of memory
abbrev pub IsErrorFor : List PlanNode → List Bool → List Event → Verdict → Option Error → Type 0
IsErrorFor nodes messages h verdict.Well e = e ≡ None
IsErrorFor nodes messages h (verdict.Failed n) e = MatchOption e ⊥ (IsToldAs (node_error nodes messages h n))
IsErrorFor nodes messages h (verdict.Interrupted signal) e = e ≡ Some (error.Interrupted signal)
IsErrorFor nodes messages h verdict.NoMemory e = e ≡ Some error.NoMemory
