-- The lines of a history.
use Rattle.std.specs.Prelude.{ℕ, ◌++◌, List, Bool, true, false, codes, decimal}
use Rattle.std.specs.Fmt.{signed_decimal}
use Rattle.std.specs.List.{flat_map}
use Rattle.hex.specs.Hex.{encode_lower}
use Rattle.just_host_record.specs.Signals.{name_of}
use Rattle.just_host_record.specs.declared.entry.Look.{Look}
use Rattle.just_host_record.specs.declared.entry.Look.TheVariants as look
use Rattle.just_host_record.specs.declared.entry.Status.{Status}
use Rattle.just_host_record.specs.declared.entry.Status.TheVariants as status
use Rattle.just_sched_history.specs.declared.event.Event.{Event}
use Rattle.just_sched_history.specs.declared.event.Event.TheVariants as event
use Rattle.just_sched_history.specs.declared.event.Outcome.{Outcome}
use Rattle.just_sched_history.specs.declared.event.Outcome.TheVariants as outcome
use Rattle.just_sched_history.specs.declared.event.Reason.{Reason}
use Rattle.just_sched_history.specs.declared.event.Reason.TheVariants as reason
use Rattle.just_sched_lines.specs.Names.{call_name, miss_name}

abbrev pub answer_text : Bool → List ℕ
answer_text true = codes "yes"
answer_text false = codes "no"

abbrev pub look_text : Look → List ℕ
look_text look.Empty = codes "empty"
look_text (look.OutputMissing j) = codes "missing:" ++ decimal j
look_text look.Full = codes "full"

-- the digits of a sum, behind a blank
abbrev pub sum_text : List ℕ → List ℕ
sum_text sum = codes " " ++ encode_lower sum

abbrev pub status_text : Status → List ℕ
status_text (status.Code k) = codes "code:" ++ signed_decimal k
status_text (status.Signal k) = codes "signal:" ++ signed_decimal k
status_text status.Unknown = codes "unknown"

abbrev pub reason_text : Reason → List ℕ
reason_text reason.Status = codes "status"
reason_text reason.NotConfirmed = codes "not-confirmed"
reason_text (reason.Input j m) = codes "input:" ++ (decimal j ++ (codes ":" ++ miss_name m))
reason_text (reason.Output j) = codes "output:" ++ decimal j
reason_text (reason.Place c m) = codes "place:" ++ (call_name c ++ (codes ":" ++ miss_name m))
reason_text (reason.Fault c) = codes "fault:" ++ call_name c
reason_text reason.Interrupted = codes "interrupted"
reason_text reason.NoMemory = codes "no-memory"

abbrev pub outcome_text : Outcome → List ℕ
outcome_text outcome.Well = codes "well"
outcome_text (outcome.Failed r) = reason_text r

-- the line of an event, without its newline
abbrev pub line_of : Event → List ℕ
line_of (event.Asked n answer) = codes "asked " ++ (decimal n ++ (codes " " ++ answer_text answer))
line_of (event.Took n) = codes "took " ++ decimal n
line_of (event.Looked n sums seen) =
    codes "looked " ++ (decimal n ++ (codes " " ++ (look_text seen ++ flat_map sum_text sums)))
line_of (event.Skipped n) = codes "skipped " ++ decimal n
line_of (event.Begun n) = codes "begun " ++ decimal n
line_of (event.Started n i c) =
    codes "started " ++ (decimal n ++ (codes " " ++ (decimal i ++ (codes " " ++ decimal c))))
line_of (event.Ended n i c s) =
    codes "ended " ++ (decimal n ++ (codes " " ++ (decimal i
    ++ (codes " " ++ (decimal c ++ (codes " " ++ status_text s))))))
line_of (event.Saved n) = codes "saved " ++ decimal n
line_of (event.Done n o) = codes "done " ++ (decimal n ++ (codes " " ++ outcome_text o))
line_of (event.Gave n) = codes "gave " ++ decimal n
line_of (event.Caught signal) = codes "caught " ++ name_of signal

-- the lines of the events, one behind the other
abbrev pub history_text : List Event → List ℕ
history_text history = flat_map (λ e. line_of e ++ codes "\n") history
