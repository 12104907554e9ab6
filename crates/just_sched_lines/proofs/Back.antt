-- An event is read back from its line.
use Rattle.std.proofs.Common.{◌≡◌, ℕ, ◌<◌, ◌≤◌, ◌^◌, ◌==◌, Bool, true, false, if◌then◌else◌, List, ◌∷◌, ◌++◌, length, decimal, ℤ, refl, ap, ◌∙◌, append_assoc, length-append, arith}
use Rattle.std.specs.List.{AllByRecursion, flat_map}
use Rattle.just_host_record.specs.declared.entry.Look.{Look}
use Rattle.just_host_record.specs.declared.entry.Look.TheVariants as look
use Rattle.just_host_record.specs.declared.entry.Status.{Status}
use Rattle.just_host_record.specs.declared.entry.Status.TheVariants as status
use Rattle.just_sched_history.specs.declared.event.Event.{Event}
use Rattle.just_sched_history.specs.declared.event.Event.TheVariants as event
use Rattle.just_sched_history.specs.declared.event.Outcome.{Outcome}
use Rattle.just_sched_history.specs.declared.event.Outcome.TheVariants as outcome
use Rattle.just_sched_history.specs.declared.event.Reason.{Reason}
use Rattle.just_sched_history.specs.declared.event.Reason.TheVariants as reason
use Rattle.just_sched_lines.specs.Names.{call_name, miss_name}
use Rattle.just_sched_lines.specs.Lines.{answer_text, look_text, sum_text, status_text, reason_text, outcome_text, line_of}
use Rattle.just_sched_lines.specs.Fitting.{IsSum, FitsLook, FitsStatus, FitsReason, FitsOutcome, FitsEvent}
use Rattle.just_sched_lines.proofs.Reading.{first, is_digit, number, skip, behind_colon, call_in, miss_in, look_in, after_look, sums_in, status_in, reason_in, outcome_in, asked_in, looked_in, started_in, ended_in, event_in}
use Rattle.just_sched_lines.proofs.Numbers.{number_read, after_read, number_then, skip_then, signed_read}
use Rattle.just_sched_lines.proofs.Words.{call_read, colon_read, miss_read, signal_read}
use Rattle.just_sched_lines.proofs.Sums.{sums_read, sums_size, no_digit}

look_read : (l : Look) (t : List ℕ) → FitsLook l → is_digit (first t) ≡ false → look_in (look_text l ++ t) ≡ l
look_read look.Empty t h q = refl
look_read (look.OutputMissing j) t h q = ap (λ (n : ℕ). look.OutputMissing n) (number_read j t h q)
look_read look.Full t h q = refl

look_after : (l : Look) (t : List ℕ) → FitsLook l → is_digit (first t) ≡ false → after_look (look_text l ++ t) ≡ t
look_after look.Empty t h q = refl
look_after (look.OutputMissing j) t h q = after_read j t h q
look_after look.Full t h q = refl

status_read : (s : Status) (r : List ℕ) → FitsStatus s → status_in (status_text s ++ (10 ∷ r)) ≡ s
status_read (status.Code k) r h = ap (λ (z : ℤ). status.Code z) (signed_read k (10 ∷ r) h refl)
status_read (status.Signal k) r h = ap (λ (z : ℤ). status.Signal z) (signed_read k (10 ∷ r) h refl)
status_read status.Unknown r h = refl

reason_read : (o : Reason) (r : List ℕ) → FitsReason o → reason_in (reason_text o ++ (10 ∷ r)) ≡ o
reason_read reason.Status r h = refl
reason_read reason.NotConfirmed r h = refl
reason_read (reason.Input j m) r h =
    let place = number_then j 58 (miss_name m) (10 ∷ r) h refl in
    let missed = ap (λ (t : List ℕ). miss_in t) (skip_then j 58 (miss_name m) (10 ∷ r) h refl) ∙ miss_read m (10 ∷ r) in
    λ i. reason.Input (place i) (missed i)
reason_read (reason.Output j) r h = ap (λ (n : ℕ). reason.Output n) (number_read j (10 ∷ r) h refl)
reason_read (reason.Place c m) r h =
    let apart = append_assoc (call_name c) (58 ∷ miss_name m) (10 ∷ r) in
    let called = ap (λ (t : List ℕ). call_in t) apart ∙ call_read c (58 ∷ (miss_name m ++ (10 ∷ r))) in
    let missed = ap (λ (t : List ℕ). miss_in (behind_colon t)) apart
    ∙ ap (λ (t : List ℕ). miss_in t) (colon_read c (miss_name m ++ (10 ∷ r))) ∙ miss_read m (10 ∷ r) in
    λ i. reason.Place (called i) (missed i)
reason_read (reason.Fault c) r h = ap (λ d. reason.Fault d) (call_read c (10 ∷ r))
reason_read reason.Interrupted r h = refl
reason_read reason.NoMemory r h = refl

not_well : (o : Reason) (t : List ℕ) → (first (reason_text o ++ t) == 119) ≡ false
not_well reason.Status t = refl
not_well reason.NotConfirmed t = refl
not_well (reason.Input j m) t = refl
not_well (reason.Output j) t = refl
not_well (reason.Place c m) t = refl
not_well (reason.Fault c) t = refl
not_well reason.Interrupted t = refl
not_well reason.NoMemory t = refl

outcome_read : (o : Outcome) (r : List ℕ) → FitsOutcome o → outcome_in (outcome_text o ++ (10 ∷ r)) ≡ o
outcome_read outcome.Well r h = refl
outcome_read (outcome.Failed o) r h =
    ap (λ (b : Bool). if b then outcome.Well else outcome.Failed (reason_in (reason_text o ++ (10 ∷ r)))) (not_well o (10 ∷ r))
    ∙ ap (λ (x : Reason). outcome.Failed x) (reason_read o r h)

answer_read : (answer : Bool) (r : List ℕ) → (first (answer_text answer ++ r) == 121) ≡ answer
answer_read true r = refl
answer_read false r = refl

-- a number with a blank behind it, in a text that is known
number_at : (t : List ℕ) (n : ℕ) (x r : List ℕ) → t ≡ (decimal n ++ (32 ∷ x)) ++ r → n < 2 ^ 32 → number t ≡ n
number_at t n x r e h = ap (λ (u : List ℕ). number u) e ∙ number_then n 32 x r h refl

skip_at : (t : List ℕ) (n : ℕ) (x r : List ℕ) → t ≡ (decimal n ++ (32 ∷ x)) ++ r → n < 2 ^ 32 → skip t ≡ x ++ r
skip_at t n x r e h = ap (λ (u : List ℕ). skip u) e ∙ skip_then n 32 x r h refl

asked_read : (n : ℕ) (answer : Bool) (r : List ℕ) → n < 2 ^ 32
    → asked_in ((decimal n ++ (32 ∷ answer_text answer)) ++ (10 ∷ r)) ≡ event.Asked n answer
asked_read n answer r h =
    let node = number_then n 32 (answer_text answer) (10 ∷ r) h refl in
    let said = ap (λ (t : List ℕ). first t == 121) (skip_then n 32 (answer_text answer) (10 ∷ r) h refl) ∙ answer_read answer (10 ∷ r) in
    λ i. event.Asked (node i) (said i)

looked_read : (n : ℕ) (sums : List (List ℕ)) (seen : Look) (r : List ℕ) → n < 2 ^ 32 → AllByRecursion IsSum sums → FitsLook seen
    → looked_in ((decimal n ++ (32 ∷ (look_text seen ++ flat_map sum_text sums))) ++ (10 ∷ r)) ≡ event.Looked n sums seen
looked_read n sums seen r h all fits =
    let s : List ℕ = flat_map sum_text sums in
    let x : List ℕ = look_text seen ++ s in
    let t : List ℕ = (decimal n ++ (32 ∷ x)) ++ (10 ∷ r) in
    let node = number_then n 32 x (10 ∷ r) h refl in
    let behind = skip_then n 32 x (10 ∷ r) h refl ∙ append_assoc (look_text seen) s (10 ∷ r) in
    let enough : length sums ≤ length t = omega (arith, sums_size sums, length-append (look_text seen) s, length-append (decimal n) (32 ∷ x), length-append (decimal n ++ (32 ∷ x)) (10 ∷ r)) in
    let digits = ap (λ (u : List ℕ). sums_in (length t) (after_look u)) behind
    ∙ ap (λ (u : List ℕ). sums_in (length t) u) (look_after seen (s ++ (10 ∷ r)) fits (no_digit sums r))
    ∙ sums_read (length t) sums r enough all in
    let shown = ap (λ (u : List ℕ). look_in u) behind ∙ look_read seen (s ++ (10 ∷ r)) fits (no_digit sums r) in
    λ i. event.Looked (node i) (digits i) (shown i)

started_read : (n j c : ℕ) (r : List ℕ) → n < 2 ^ 32 → j < 2 ^ 32 → c < 2 ^ 32
    → started_in ((decimal n ++ (32 ∷ (decimal j ++ (32 ∷ decimal c)))) ++ (10 ∷ r)) ≡ event.Started n j c
started_read n j c r hn hj hc =
    let x : List ℕ = decimal j ++ (32 ∷ decimal c) in
    let t : List ℕ = (decimal n ++ (32 ∷ x)) ++ (10 ∷ r) in
    let second : skip t ≡ x ++ (10 ∷ r) = skip_then n 32 x (10 ∷ r) hn refl in
    let third = skip_at (skip t) j (decimal c) (10 ∷ r) second hj in
    let node = number_then n 32 x (10 ∷ r) hn refl in
    let place = number_at (skip t) j (decimal c) (10 ∷ r) second hj in
    let child = ap (λ (u : List ℕ). number u) third ∙ number_read c (10 ∷ r) hc refl in
    λ i. event.Started (node i) (place i) (child i)

ended_read : (n j c : ℕ) (s : Status) (r : List ℕ) → n < 2 ^ 32 → j < 2 ^ 32 → c < 2 ^ 32 → FitsStatus s
    → ended_in ((decimal n ++ (32 ∷ (decimal j ++ (32 ∷ (decimal c ++ (32 ∷ status_text s)))))) ++ (10 ∷ r)) ≡ event.Ended n j c s
ended_read n j c s r hn hj hc hs =
    let y : List ℕ = decimal c ++ (32 ∷ status_text s) in
    let x : List ℕ = decimal j ++ (32 ∷ y) in
    let t : List ℕ = (decimal n ++ (32 ∷ x)) ++ (10 ∷ r) in
    let second : skip t ≡ x ++ (10 ∷ r) = skip_then n 32 x (10 ∷ r) hn refl in
    let third : skip (skip t) ≡ y ++ (10 ∷ r) = skip_at (skip t) j y (10 ∷ r) second hj in
    let fourth = skip_at (skip (skip t)) c (status_text s) (10 ∷ r) third hc in
    let node = number_then n 32 x (10 ∷ r) hn refl in
    let place = number_at (skip t) j y (10 ∷ r) second hj in
    let child = number_at (skip (skip t)) c (status_text s) (10 ∷ r) third hc in
    let end = ap (λ (u : List ℕ). status_in u) fourth ∙ status_read s r hs in
    λ i. event.Ended (node i) (place i) (child i) (end i)

done_read : (n : ℕ) (o : Outcome) (r : List ℕ) → n < 2 ^ 32 → FitsOutcome o
    → event_in (line_of (event.Done n o) ++ (10 ∷ r)) ≡ event.Done n o
done_read n o r h fits =
    let node = number_then n 32 (outcome_text o) (10 ∷ r) h refl in
    let end = ap (λ (t : List ℕ). outcome_in t) (skip_then n 32 (outcome_text o) (10 ∷ r) h refl) ∙ outcome_read o r fits in
    λ i. event.Done (node i) (end i)

-- an event is read back from its line, whatever stands behind the newline
pub read_back : (e : Event) (r : List ℕ) → FitsEvent e → event_in (line_of e ++ (10 ∷ r)) ≡ e
read_back (event.Asked n answer) r h = asked_read n answer r h
read_back (event.Took n) r h = ap (λ (m : ℕ). event.Took m) (number_read n (10 ∷ r) h refl)
read_back (event.Looked n sums seen) r h = looked_read n sums seen r h.0 h.1 h.2
read_back (event.Skipped n) r h = ap (λ (m : ℕ). event.Skipped m) (number_read n (10 ∷ r) h refl)
read_back (event.Begun n) r h = ap (λ (m : ℕ). event.Begun m) (number_read n (10 ∷ r) h refl)
read_back (event.Started n j c) r h = started_read n j c r h.0 h.1 h.2
read_back (event.Ended n j c s) r h = ended_read n j c s r h.0 h.1 h.2 h.3
read_back (event.Saved n) r h = ap (λ (m : ℕ). event.Saved m) (number_read n (10 ∷ r) h refl)
read_back (event.Done n o) r h = done_read n o r h.0 h.1
read_back (event.Gave n) r h = ap (λ (m : ℕ). event.Gave m) (number_read n (10 ∷ r) h refl)
read_back (event.Caught g) r h = ap (λ x. event.Caught x) (signal_read g (10 ∷ r))
