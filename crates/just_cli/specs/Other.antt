-- What is done for words that ask for no run.
use Rattle.std.specs.Prelude.{ℕ, ◌≡◌, Bool, List, [], Option, Result}
use Rattle.just_host_record.specs.declared.entry.Entry.{Entry}
use Rattle.just_host_record.specs.World.{World, Moment}
use Rattle.just_config.specs.declared.help.TheConstants.{HELP}
use Rattle.just_cli_texts.specs.Prints.{alone}
use Rattle.just_cli_vectors.specs.Vectors.{vectors_text}
use Rattle.just_cli.specs.declared.ended.Failure.{Failure}
use Rattle.just_cli.specs.declared.ended.Report.{Report}
use Rattle.just_cli.specs.declared.init_text.TheConstants.{INIT_JUSTFILE}
use Rattle.just_cli.specs.declared.task.Other.{Other}
use Rattle.just_cli.specs.declared.task.Other.TheVariants as no_run
use Rattle.just_cli.specs.Acts.{Act}
use Rattle.just_cli.specs.Altered.{StaysAsItWas}
use Rattle.just_cli.specs.Cleaning.{IsCleaned}
use Rattle.just_cli.specs.Invoked.{IsInvoked}
use Rattle.just_cli.specs.Preparing.{LeavesActs}
use Rattle.just_cli.specs.Printing.{IsPrinted, IsIdle}
use Rattle.just_cli.specs.Questions.{version_line, IsShown}
use Rattle.just_cli.specs.Written.{IsWritten}

-- a text is printed, that of a run over a host in memory too, a justfile written, a cache cleaned, or a child run alone; the line that tells of it isn't told where the words ask for quiet
abbrev pub Does : Other → Bool → Moment → Moment → Result Report Failure → Type 0
Does no_run.Help quiet before after result = IsShown HELP.now before after result
Does no_run.Version quiet before after result = IsShown version_line before after result
Does (no_run.Init path) quiet before after result = IsWritten path INIT_JUSTFILE.now quiet before after result
Does (no_run.Show p) quiet before after result = IsPrinted p quiet before after result
Does no_run.Nothing quiet before after result = IsIdle before after result
Does (no_run.Write path text) quiet before after result = IsWritten path text quiet before after result
Does (no_run.Clean folder path) quiet before after result = IsCleaned folder path quiet before after result
Does (no_run.Invoke child) quiet before after result = IsInvoked child quiet before after result
Does (no_run.Vectors count) quiet before after result = IsPrinted (alone (vectors_text count)) quiet before after result

-- quiet is asked for so, where it is asked for at all: the help and the version are printed all the same
abbrev pub HeedsQuiet : (Bool → Type 0) → Other → Bool → Type 0
HeedsQuiet asks no_run.Help quiet = Unit {0}
HeedsQuiet asks no_run.Version quiet = Unit {0}
HeedsQuiet asks (no_run.Init path) quiet = asks quiet
HeedsQuiet asks (no_run.Show p) quiet = asks quiet
HeedsQuiet asks no_run.Nothing quiet = asks quiet
HeedsQuiet asks (no_run.Write path text) quiet = asks quiet
HeedsQuiet asks (no_run.Clean folder path) quiet = asks quiet
HeedsQuiet asks (no_run.Invoke child) quiet = asks quiet
HeedsQuiet asks (no_run.Vectors count) quiet = asks quiet

-- what finding it leaves in the record: the help and the version leave nothing
abbrev pub LeavesFor : Other → List Entry → List Act → List Entry → Type 0
LeavesFor no_run.Help listings acts es = es ≡ []
LeavesFor no_run.Version listings acts es = es ≡ []
LeavesFor (no_run.Init path) listings acts es = LeavesActs listings acts es
LeavesFor (no_run.Show p) listings acts es = LeavesActs listings acts es
LeavesFor no_run.Nothing listings acts es = LeavesActs listings acts es
LeavesFor (no_run.Write path text) listings acts es = LeavesActs listings acts es
LeavesFor (no_run.Clean folder path) listings acts es = LeavesActs listings acts es
LeavesFor (no_run.Invoke child) listings acts es = LeavesActs listings acts es
LeavesFor (no_run.Vectors count) listings acts es = LeavesActs listings acts es

-- it leaves a told world as it was, but for paths at or below temporary folders; of a justfile that is written and of a cache that is cleaned what is done says it
abbrev pub StaysFor : Other → List (List ℕ) → Option World → Option World → Type 0
StaysFor no_run.Help folders told after = StaysAsItWas folders told after
StaysFor no_run.Version folders told after = StaysAsItWas folders told after
StaysFor (no_run.Init path) folders told after = Unit {0}
StaysFor (no_run.Show p) folders told after = StaysAsItWas folders told after
StaysFor no_run.Nothing folders told after = StaysAsItWas folders told after
StaysFor (no_run.Write path text) folders told after = Unit {0}
StaysFor (no_run.Clean folder path) folders told after = Unit {0}
StaysFor (no_run.Invoke child) folders told after = StaysAsItWas folders told after
StaysFor (no_run.Vectors count) folders told after = StaysAsItWas folders told after
