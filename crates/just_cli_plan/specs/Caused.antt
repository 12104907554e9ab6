-- What a record shows of the error of a run that failed.
use Rattle.std.specs.Prelude.{ℕ, ◌≡◌, ◌≢◌, ◌⊎◌, Bool, true, pos, List, [], Contains, Option, Some, slice_get, slice_index_or}
use Rattle.just_path.specs.declared.host.Miss.{Miss}
use Rattle.just_path.specs.declared.host.Miss.TheVariants as miss
use Rattle.just_host_record.specs.declared.entry.Call.{Call}
use Rattle.just_host_record.specs.declared.entry.Call.TheVariants as call
use Rattle.just_host_record.specs.declared.entry.Entry.{Entry}
use Rattle.just_host_record.specs.declared.entry.Entry.TheVariants as entry
use Rattle.just_host_record.specs.declared.entry.HostFault.{HostFault}
use Rattle.just_host_record.specs.declared.entry.HostFault.TheVariants as fault
use Rattle.just_host_record.specs.declared.entry.Status.{Status}
use Rattle.just_host_record.specs.declared.entry.Status.TheVariants as status
use Rattle.just_sched_history.specs.declared.event.Event.{Event}
use Rattle.just_sched_history.specs.declared.event.Event.TheVariants as event
use Rattle.just_sched_history.specs.declared.event.Reason.{Reason}
use Rattle.just_sched_history.specs.declared.event.Reason.TheVariants as reason
use Rattle.just_sched_history.specs.declared.plan_node.PlanNode.{PlanNode}
use Rattle.just_exec_work.specs.declared.work.Step.TheVariants as step
use Rattle.just_sched_history.specs.Causes.{ShowsFailure, ShowsMiss, ShowsRefusal}
use Rattle.just_sched_history.specs.Cached.{seen_at}
use Rattle.just_sched_history.specs.Nodes.{paths_in, outputs_in}
use Rattle.just_sched_history.specs.State.{next_step, reason_of, statuses}
use Rattle.just_exec_work.specs.Steps.{commands_of}
use Rattle.just_cli_plan.specs.Outcome.{name_of, line_of, is_guard, lost_error, entry_seen, shown_at, failure_error}
use Rattle.just_exec.specs.declared.error.Error.{Error}
use Rattle.just_exec.specs.declared.error.Error.TheVariants as error

-- The record shows that a child ended so, which a node of that recipe had started by its command of that line, and by
-- which the node's body failed.
pub record ShowsEnd (nodes : List PlanNode) (h : List Event) (es : List Entry) (recipe : List ℕ) (line : Option ℕ) (guard : Bool) (ended : Status) : Type 0 where
  pub number : ℕ
  pub node : PlanNode
  pub place : ℕ
  pub child : ℕ
  pub is_node : slice_get nodes number ≡ Some node
  pub recipe_is : recipe ≡ name_of node
  pub line_is : line ≡ line_of (slice_get (commands_of node.work) place)
  pub guard_is : guard ≡ is_guard (slice_get (commands_of node.work) place)
  pub started : Contains h (event.Started number place child)
  pub ended_so : Contains es (entry.Ended child ended)
  pub fails : next_step nodes h number ≡ step.Failed

-- A node of that recipe failed for that reason.
pub record HasFailed (nodes : List PlanNode) (h : List Event) (recipe : List ℕ) (r : Reason) : Type 0 where
  pub number : ℕ
  pub node : PlanNode
  pub is_node : slice_get nodes number ≡ Some node
  pub recipe_is : recipe ≡ name_of node
  pub reason_is : reason_of h number ≡ Some r

-- A node failed, since a child of its body wasn't started, or couldn't be waited for; the error tells which.
pub record HasLostChild (nodes : List PlanNode) (h : List Event) (e : Error) (c : Call) : Type 0 where
  pub number : ℕ
  pub node : PlanNode
  pub is_node : slice_get nodes number ≡ Some node
  pub reason_is : reason_of h number ≡ Some (reason.Fault c)
  pub error_is : e ≡ lost_error node (statuses h number) node.work (fault.Failed c)
  pub call_is : (c ≡ call.Start) ⊎ (c ≡ call.Wait)

-- A node failed, since an input of its cache of that path is such a miss, which the record shows.
pub record ShowsInput (nodes : List PlanNode) (h : List Event) (path : List ℕ) (m : Miss) (es : List Entry) : Type 0 where
  pub number : ℕ
  pub node : PlanNode
  pub place : ℕ
  pub is_node : slice_get nodes number ≡ Some node
  pub path_is : path ≡ slice_index_or (paths_in node.cache) place []
  pub reason_is : reason_of h number ≡ Some (reason.Input place m)
  pub missed : Contains es (entry.Missed path m)

-- A node of that recipe failed, since that output of its cache isn't there, as the record shows of the outputs of its cache.
pub record ShowsOutput (nodes : List PlanNode) (h : List Event) (recipe output : List ℕ) (es : List Entry) : Type 0 where
  pub number : ℕ
  pub node : PlanNode
  pub place : ℕ
  pub is_node : slice_get nodes number ≡ Some node
  pub recipe_is : recipe ≡ name_of node
  pub output_is : output ≡ slice_index_or (outputs_in node.cache) place []
  pub reason_is : reason_of h number ≡ Some (reason.Output place)
  pub checked : Contains es (entry.Checked (outputs_in node.cache) (Some place))

-- A node failed, since the entry that it was looked at by couldn't be saved.
pub record HasLostEntry (nodes : List PlanNode) (h : List Event) (path : List ℕ) : Type 0 where
  pub number : ℕ
  pub node : PlanNode
  pub is_node : slice_get nodes number ≡ Some node
  pub path_is : path ≡ entry_seen node.cache (seen_at h number)
  pub reason_is : reason_of h number ≡ Some (reason.Fault call.Save)

abbrev pub ShowsEntry : List PlanNode → List Event → List ℕ → HostFault → List Entry → Type 0
ShowsEntry nodes h path (fault.Failed c) es = (c ≡ call.Save) × HasLostEntry nodes h path × ShowsFailure call.Save es
ShowsEntry nodes h path (fault.Missed m) es = ⊥
ShowsEntry nodes h path fault.NoMemory es = ⊥

-- the causes of an error of a child, of a temporary folder, of a prompt, and of a text that wasn't printed
abbrev pub ShowsChild : List PlanNode → List Event → Error → HostFault → List Entry → Type 0
ShowsChild nodes h e (fault.Failed c) es = HasLostChild nodes h e c × ShowsFailure c es
ShowsChild nodes h e (fault.Missed m) es = ⊥
ShowsChild nodes h e fault.NoMemory es = ⊥

abbrev pub ShowsFolder : List PlanNode → List Event → List ℕ → HostFault → List Entry → Type 0
ShowsFolder nodes h recipe (fault.Failed c) es = (c ≡ call.Temp) × HasFailed nodes h recipe (reason.Fault call.Temp) × ShowsFailure call.Temp es
ShowsFolder nodes h recipe (fault.Missed m) es = HasFailed nodes h recipe (reason.Place call.Temp m) × ShowsMiss m es
ShowsFolder nodes h recipe fault.NoMemory es = ⊥

abbrev pub ShowsAsking : HostFault → List Entry → Type 0
ShowsAsking (fault.Failed c) es = (c ≡ call.Ask) × ShowsFailure call.Ask es
ShowsAsking (fault.Missed m) es = ⊥
ShowsAsking fault.NoMemory es = ⊥

abbrev pub ShowsPrint : HostFault → List Entry → Type 0
ShowsPrint (fault.Failed c) es = (c ≡ call.Print) × ShowsFailure call.Print es
ShowsPrint (fault.Missed m) es = ⊥
ShowsPrint fault.NoMemory es = ⊥

-- A node failed by a refused call, which the error tells with that path.
pub record HasLostFile (nodes : List PlanNode) (h : List Event) (path : List ℕ) (io : HostFault) : Type 0 where
  pub number : ℕ
  pub node : PlanNode
  pub why : Reason
  pub is_node : slice_get nodes number ≡ Some node
  pub reason_is : reason_of h number ≡ Some why
  pub error_is : failure_error node true (shown_at h number) (Some why) ≡ error.FilesystemIo path io

abbrev pub ShowsFile : List PlanNode → List Event → List ℕ → HostFault → List Entry → Type 0
ShowsFile nodes h path (fault.Failed c) es = HasLostFile nodes h path (fault.Failed c) × ShowsFailure c es
ShowsFile nodes h path (fault.Missed m) es = HasLostFile nodes h path (fault.Missed m) × ShowsMiss m es
ShowsFile nodes h path fault.NoMemory es = ⊥

-- A run fails by this error only where its history and the record of it show this.
abbrev pub IsCaused : List PlanNode → List Event → Error → List Entry → Type 0
IsCaused nodes h (error.FilesystemIo path io) es = ShowsFile nodes h path io es
IsCaused nodes h (error.Code recipe line code message) es = (code ≢ pos 0) × (guard : Bool) × ShowsEnd nodes h es recipe line guard (status.Code code)
IsCaused nodes h (error.GuardCode recipe line code) es = (code ≢ pos 0) × (code ≢ pos 1) × ShowsEnd nodes h es recipe (Some line) true (status.Code code)
IsCaused nodes h (error.Signal recipe line signal) es = (guard : Bool) × ShowsEnd nodes h es recipe line guard (status.Signal signal)
IsCaused nodes h (error.Unknown recipe line) es = (guard : Bool) × ShowsEnd nodes h es recipe line guard status.Unknown
IsCaused nodes h (error.ShellIo recipe shell io) es = ShowsChild nodes h (error.ShellIo recipe shell io) io es
IsCaused nodes h (error.Script recipe command io) es = ShowsChild nodes h (error.Script recipe command io) io es
IsCaused nodes h (error.Shebang recipe command argument io) es = ShowsChild nodes h (error.Shebang recipe command argument io) io es
IsCaused nodes h (error.TempdirIo recipe io) es = ShowsFolder nodes h recipe io es
IsCaused nodes h (error.CacheInputMissing path) es = ShowsInput nodes h path miss.NotFound es
IsCaused nodes h (error.CacheInputDirectory path) es = ShowsInput nodes h path miss.IsFolder es
IsCaused nodes h (error.CacheOutputMissing recipe output) es = ShowsOutput nodes h recipe output es
IsCaused nodes h (error.CacheEntryWrite path io) es = ShowsEntry nodes h path io es
IsCaused nodes h (error.NotConfirmed recipe) es = HasFailed nodes h recipe reason.NotConfirmed × ShowsRefusal es
IsCaused nodes h (error.GetConfirmation io) es = ShowsAsking io es
IsCaused nodes h (error.StdoutIo io) es = ShowsPrint io es
IsCaused nodes h (error.Interrupted signal) es = Contains h (event.Caught signal) × Contains es (entry.Signalled signal)
IsCaused nodes h error.NoMemory es = Unit {0}
IsCaused nodes h (error.Usage e) es = ⊥
IsCaused nodes h (error.Config e) es = ⊥
IsCaused nodes h (error.CurrentDir io) es = ⊥
IsCaused nodes h (error.Search e) es = ⊥
IsCaused nodes h (error.Load path io) es = ⊥
IsCaused nodes h error.MissingImportFile es = ⊥
IsCaused nodes h (error.CircularImport current import) es = ⊥
IsCaused nodes h (error.MissingModuleFile name) es = ⊥
IsCaused nodes h (error.AmbiguousModuleFile name found) es = ⊥
IsCaused nodes h error.Homedir es = ⊥
IsCaused nodes h (error.Compile e) es = ⊥
IsCaused nodes h (error.Const path line column) es = ⊥
IsCaused nodes h (error.UnstableFeature feature) es = ⊥
IsCaused nodes h error.DotenvRequired es = ⊥
IsCaused nodes h (error.Dotenv path line) es = ⊥
IsCaused nodes h error.DotenvArgumentsRequireLists es = ⊥
IsCaused nodes h (error.DotenvCommand command output_error) es = ⊥
IsCaused nodes h (error.UnknownOverrides overrides) es = ⊥
IsCaused nodes h (error.FunctionCall name) es = ⊥
IsCaused nodes h error.NoRecipes es = ⊥
IsCaused nodes h error.NoDefaultRecipe es = ⊥
IsCaused nodes h (error.DefaultRecipeRequiresArguments recipe min_arguments) es = ⊥
IsCaused nodes h (error.UnknownRecipe recipe) es = ⊥
IsCaused nodes h (error.UnknownSubmodule path) es = ⊥
IsCaused nodes h (error.ModuleAbsent name) es = ⊥
IsCaused nodes h (error.RecipeDisabled recipe modules) es = ⊥
IsCaused nodes h (error.AliasDisabled alias modules) es = ⊥
IsCaused nodes h (error.ExpectedSubmoduleButFoundRecipe path) es = ⊥
IsCaused nodes h (error.UnknownOption recipe switch) es = ⊥
IsCaused nodes h (error.InvalidOption argument) es = ⊥
IsCaused nodes h (error.FlagWithValue recipe switch) es = ⊥
IsCaused nodes h (error.NonFinalOptionWithValue recipe switch) es = ⊥
IsCaused nodes h (error.OptionMissingValue recipe switch) es = ⊥
IsCaused nodes h (error.DuplicateOption recipe switch) es = ⊥
IsCaused nodes h (error.PositionalArgumentCountMismatch recipe path parameters found) es = ⊥
IsCaused nodes h (error.MissingOption recipe switch) es = ⊥
IsCaused nodes h (error.ArgumentTooFewValues recipe parameter found min) es = ⊥
IsCaused nodes h (error.ArgumentTooManyValues recipe parameter found max) es = ⊥
IsCaused nodes h (error.ArgumentPatternMismatch argument recipe parameter texts) es = ⊥
IsCaused nodes h (error.EmptyListArgument recipe parameter) es = ⊥
IsCaused nodes h (error.ExcessInvocations invocations) es = ⊥
IsCaused nodes h (error.RecipeRequired subcommand) es = ⊥
IsCaused nodes h (error.UnknownGroup group) es = ⊥
IsCaused nodes h (error.EvalUnknownSubmodule submodule) es = ⊥
IsCaused nodes h (error.EvalUnknownSubmoduleOrVariable name) es = ⊥
IsCaused nodes h error.FormatCheckFoundDiff es = ⊥
IsCaused nodes h error.NoChoosableRecipes es = ⊥
IsCaused nodes h (error.ChooserInvoke shell arguments chooser io) es = ⊥
IsCaused nodes h (error.ChooserRead chooser io) es = ⊥
IsCaused nodes h (error.ChooserWrite chooser io) es = ⊥
IsCaused nodes h (error.ChooserStatus chooser ending) es = ⊥
IsCaused nodes h (error.EditorInvoke editor io) es = ⊥
IsCaused nodes h (error.EditorStatus editor ending) es = ⊥
IsCaused nodes h (error.CommandInvoke binary arguments io) es = ⊥
IsCaused nodes h (error.CommandStatus binary arguments ending) es = ⊥
IsCaused nodes h error.ClosureLimit es = ⊥
IsCaused nodes h (error.InvalidShebang recipe shebang) es = ⊥
IsCaused nodes h (error.InitExists justfile) es = ⊥
IsCaused nodes h (error.WriteJustfile justfile io) es = ⊥
