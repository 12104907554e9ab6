-- What is printed for words that ask for the help or the version.
use Rattle.std.specs.Prelude.{ℕ, ◌≡◌, ◌++◌, false, List, [], ◌∷◌, codes, None, Result, IfOk, IfErr}
use Rattle.just_host_record.specs.declared.entry.Call.TheVariants as call
use Rattle.just_host_record.specs.declared.entry.Entry.{Entry}
use Rattle.just_host_record.specs.declared.entry.Entry.TheVariants as entry
use Rattle.just_host_record.specs.declared.entry.HostFault.TheVariants as fault
use Rattle.just_host_record.specs.declared.entry.Stream.TheVariants as stream
use Rattle.just_host_record.specs.World.{Moment}
use Rattle.just_config.specs.Versions.{version_text}
use Rattle.just_cli.specs.declared.ended.Failure.{Failure}
use Rattle.just_cli.specs.declared.ended.Report.{Report}
use Rattle.just_cli.specs.Record.{EndsBefore}
use Rattle.just_cli_plan.specs.Own.{OrMemory}
use Rattle.just_exec.specs.Codes.{exit_code}
use Rattle.just_exec.specs.declared.error.Error.TheVariants as error

-- the line of the version: `just 1.58.0`
abbrev pub version_line : List ℕ
version_line = codes "just " ++ (version_text (record { major = 1; minor = 58; patch = 0 }) ++ codes "\n")

-- nothing is run: no plan, and nothing in the history
abbrev pub IsNothing : Report → Type 0
IsNothing r = (r.plan.nodes ≡ []) × (r.plan.invocations ≡ []) × (r.history ≡ [])

-- the print of the text failed, or memory was wanting; the error is told
abbrev pub IsUnshown : Failure → List Entry → List Entry → Type 0
IsUnshown f old new = (f.plan ≡ None) × (f.history ≡ []) × (f.code ≡ exit_code f.error) × OrMemory (λ x. x ≡ error.StdoutIo (fault.Failed call.Print)) f.error × EndsBefore [] false f.error old new

-- the text is printed once to standard output, and the told world stays
pub record IsShown (text : List ℕ) (before after : Moment) (result : Result Report Failure) : Type 0 where
  pub shown : IfOk result (λ r. IsNothing r × (after.entries ≡ before.entries ++ entry.Printed stream.Out text ∷ []))
  pub unshown : IfErr result (λ f. IsUnshown f before.entries after.entries)
  pub world : after.world ≡ before.world
