-- Reading a line back: the event, from the line and whatever stands behind its newline.
use Rattle.std.proofs.Common.{ℕ, zero, suc, pred, ◌==◌, ◌&&◌, nat_le, Bool, if◌then◌else◌, List, [], ◌∷◌, length, take, drop, ℤ, pos, negsuc, Result, Ok, Err}
use Rattle.std.specs.Str.Parse.{digits_value}
use Rattle.hex.specs.Hex.{decode_of}
use Rattle.hex.specs.declared.error.FromHexError.{FromHexError}
use Rattle.just_path.specs.declared.host.Miss.{Miss}
use Rattle.just_path.specs.declared.host.Miss.TheVariants as miss
use Rattle.just_host_record.specs.declared.entry.Call.{Call}
use Rattle.just_host_record.specs.declared.entry.Call.TheVariants as call
use Rattle.just_host_record.specs.declared.entry.Look.{Look}
use Rattle.just_host_record.specs.declared.entry.Look.TheVariants as look
use Rattle.just_host_record.specs.declared.entry.Status.{Status}
use Rattle.just_host_record.specs.declared.entry.Status.TheVariants as status
use Rattle.just_host_record.specs.declared.signal.Signal.{Signal}
use Rattle.just_host_record.specs.declared.signal.Signal.TheVariants as signal
use Rattle.just_sched_history.specs.declared.event.Event.{Event}
use Rattle.just_sched_history.specs.declared.event.Event.TheVariants as event
use Rattle.just_sched_history.specs.declared.event.Outcome.{Outcome}
use Rattle.just_sched_history.specs.declared.event.Outcome.TheVariants as outcome
use Rattle.just_sched_history.specs.declared.event.Reason.{Reason}
use Rattle.just_sched_history.specs.declared.event.Reason.TheVariants as reason

abbrev pub first : List ℕ → ℕ
first [] = 0
first (c ∷ cs) = c

abbrev pub is_digit : ℕ → Bool
is_digit c = nat_le 48 c && nat_le c 57

-- the digits in front
abbrev pub front : List ℕ → List ℕ
front [] = []
front (c ∷ cs) = if is_digit c then c ∷ front cs else []

-- what stands behind them
abbrev pub after : List ℕ → List ℕ
after [] = []
after (c ∷ cs) = if is_digit c then after cs else c ∷ cs

-- the number in front
abbrev pub number : List ℕ → ℕ
number t = digits_value 10 (front t)

-- what stands behind the number and one byte more
abbrev pub skip : List ℕ → List ℕ
skip t = drop 1 (after t)

-- the number in front, perhaps behind a minus
abbrev pub signed : List ℕ → ℤ
signed t = if is_digit (first t) then pos (number t) else negsuc (pred (number (drop 1 t)))

-- what stands behind the first colon
abbrev pub behind_colon : List ℕ → List ℕ
behind_colon [] = []
behind_colon (c ∷ cs) = if c == 58 then cs else behind_colon cs

-- the call with these first three letters
abbrev pub call_by : ℕ → ℕ → ℕ → Call
call_by a b c =
    if a == 77 then (if b == 101 then call.Meta else call.MakeFolder)
    else if a == 76 then (if c == 115 then call.List else call.Link)
    else if a == 67 then
    (if b == 117 then call.Current
    else if b == 104 then call.Check
    else if c == 110 then call.Canonical
    else call.Capture)
    else if a == 82 then (if c == 97 then call.Read else call.Remove)
    else if a == 73 then call.Input
    else if a == 65 then call.Ask
    else if a == 69 then call.Environ
    else if a == 87 then (if b == 114 then call.Write else call.Wait)
    else if a == 84 then call.Temp
    else if a == 80 then (if c == 105 then call.Print else call.Probe)
    else if b == 117 then call.Sum
    else if b == 97 then call.Save
    else call.Start

abbrev pub call_in : List ℕ → Call
call_in t = call_by (first t) (first (drop 1 t)) (first (drop 2 t))

abbrev pub miss_in : List ℕ → Miss
miss_in t =
    if first t == 73 then miss.IsFolder
    else if first t == 84 then miss.TooLarge
    else if first (drop 3 t) == 85 then miss.NotUtf8
    else if first (drop 3 t) == 69 then miss.NotEmpty
    else if first (drop 5 t) == 117 then miss.NotFound
    else miss.NotFolder

abbrev pub signal_in : List ℕ → Signal
signal_in t =
    if first (drop 3 t) == 72 then signal.Hangup
    else if first (drop 3 t) == 73 then signal.Interrupt
    else if first (drop 3 t) == 81 then signal.Quit
    else signal.Terminate

abbrev pub look_in : List ℕ → Look
look_in t =
    if first t == 101 then look.Empty
    else if first t == 102 then look.Full
    else look.OutputMissing (number (drop 8 t))

-- what stands behind a look
abbrev pub after_look : List ℕ → List ℕ
after_look t =
    if first t == 101 then drop 5 t
    else if first t == 102 then drop 4 t
    else after (drop 8 t)

abbrev pub bytes_of : Result (List ℕ) FromHexError → List ℕ
bytes_of (Ok bytes) = bytes
bytes_of (Err e) = []

-- the sums in front, each behind a blank, at most so many
abbrev pub sums_in : ℕ → List ℕ → List (List ℕ)
sums_in zero t = []
sums_in (suc k) t =
    if first t == 32 then bytes_of (decode_of (take 64 (drop 1 t))) ∷ sums_in k (drop 65 t) else []

abbrev pub status_in : List ℕ → Status
status_in t =
    if first t == 99 then status.Code (signed (drop 5 t))
    else if first t == 115 then status.Signal (signed (drop 7 t))
    else status.Unknown

abbrev pub reason_in : List ℕ → Reason
reason_in t =
    if first t == 115 then reason.Status
    else if first t == 111 then reason.Output (number (drop 7 t))
    else if first t == 112 then reason.Place (call_in (drop 6 t)) (miss_in (behind_colon (drop 6 t)))
    else if first t == 102 then reason.Fault (call_in (drop 6 t))
    else if first t == 110 then
    (if first (drop 2 t) == 116 then reason.NotConfirmed else reason.NoMemory)
    else if first (drop 2 t) == 112 then reason.Input (number (drop 6 t)) (miss_in (skip (drop 6 t)))
    else reason.Interrupted

abbrev pub outcome_in : List ℕ → Outcome
outcome_in t = if first t == 119 then outcome.Well else outcome.Failed (reason_in t)

abbrev pub asked_in : List ℕ → Event
asked_in t = event.Asked (number t) (first (skip t) == 121)

abbrev pub looked_in : List ℕ → Event
looked_in t = event.Looked (number t) (sums_in (length t) (after_look (skip t))) (look_in (skip t))

abbrev pub started_in : List ℕ → Event
started_in t = event.Started (number t) (number (skip t)) (number (skip (skip t)))

abbrev pub ended_in : List ℕ → Event
ended_in t =
    event.Ended (number t) (number (skip t)) (number (skip (skip t))) (status_in (skip (skip (skip t))))

abbrev pub event_in : List ℕ → Event
event_in t =
    if first t == 97 then asked_in (drop 6 t)
    else if first t == 116 then event.Took (number (drop 5 t))
    else if first t == 108 then looked_in (drop 7 t)
    else if first t == 98 then event.Begun (number (drop 6 t))
    else if first t == 103 then event.Gave (number (drop 5 t))
    else if first t == 101 then ended_in (drop 6 t)
    else if first t == 100 then event.Done (number (drop 5 t)) (outcome_in (skip (drop 5 t)))
    else if first t == 99 then event.Caught (signal_in (drop 7 t))
    else if first (drop 1 t) == 107 then event.Skipped (number (drop 8 t))
    else if first (drop 2 t) == 118 then event.Saved (number (drop 6 t))
    else started_in (drop 8 t)
