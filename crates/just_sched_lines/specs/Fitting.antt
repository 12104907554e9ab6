-- Histories whose numbers fit their types: all that a program can hold.
use Rattle.std.specs.Prelude.{ℕ, ◌≡◌, ◌<◌, ◌≤◌, ◌^◌, ⊤, List, length}
use Rattle.std.specs.Int.Signed.{mag}
use Rattle.std.specs.List.{AllByRecursion}
use Rattle.hex.specs.Hex.{IsBytes}
use Rattle.just_host_record.specs.declared.entry.Look.{Look}
use Rattle.just_host_record.specs.declared.entry.Look.TheVariants as look
use Rattle.just_host_record.specs.declared.entry.Status.{Status}
use Rattle.just_host_record.specs.declared.entry.Status.TheVariants as status
use Rattle.just_sched_history.specs.declared.event.Event.{Event}
use Rattle.just_sched_history.specs.declared.event.Event.TheVariants as event
use Rattle.just_sched_history.specs.declared.event.Outcome.{Outcome}
use Rattle.just_sched_history.specs.declared.event.Outcome.TheVariants as outcome
use Rattle.just_sched_history.specs.declared.event.Reason.{Reason}
use Rattle.just_sched_history.specs.declared.event.Reason.TheVariants as reason

-- a number of 32 bits
abbrev pub Is32 : ℕ → Type 0
Is32 n = n < 2 ^ 32

-- 32 bytes
abbrev pub IsSum : List ℕ → Type 0
IsSum sum = (length sum ≡ 32) × IsBytes sum

abbrev pub FitsLook : Look → Type 0
FitsLook look.Empty = ⊤
FitsLook (look.OutputMissing j) = Is32 j
FitsLook look.Full = ⊤

abbrev pub FitsStatus : Status → Type 0
FitsStatus (status.Code k) = mag k ≤ 2 ^ 31
FitsStatus (status.Signal k) = mag k ≤ 2 ^ 31
FitsStatus status.Unknown = ⊤

abbrev pub FitsReason : Reason → Type 0
FitsReason reason.Status = ⊤
FitsReason reason.NotConfirmed = ⊤
FitsReason (reason.Input j m) = Is32 j
FitsReason (reason.Output j) = Is32 j
FitsReason (reason.Place c m) = ⊤
FitsReason (reason.Fault c) = ⊤
FitsReason reason.Interrupted = ⊤
FitsReason reason.NoMemory = ⊤

abbrev pub FitsOutcome : Outcome → Type 0
FitsOutcome outcome.Well = ⊤
FitsOutcome (outcome.Failed r) = FitsReason r

abbrev pub FitsEvent : Event → Type 0
FitsEvent (event.Asked n answer) = Is32 n
FitsEvent (event.Took n) = Is32 n
FitsEvent (event.Looked n sums seen) = Is32 n × AllByRecursion IsSum sums × FitsLook seen
FitsEvent (event.Skipped n) = Is32 n
FitsEvent (event.Begun n) = Is32 n
FitsEvent (event.Started n i c) = Is32 n × Is32 i × Is32 c
FitsEvent (event.Ended n i c s) = Is32 n × Is32 i × Is32 c × FitsStatus s
FitsEvent (event.Saved n) = Is32 n
FitsEvent (event.Done n o) = Is32 n × FitsOutcome o
FitsEvent (event.Gave n) = Is32 n
FitsEvent (event.Caught signal) = ⊤

abbrev pub AreFitting : List Event → Type 0
AreFitting history = AllByRecursion FitsEvent history
