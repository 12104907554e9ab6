-- A record in which nothing stood against a run.
use Rattle.std.specs.Prelude.{Bool, true, false, List, is_none, pos}
use Rattle.std.specs.List.{AllPass}
use Rattle.just_host_record.specs.declared.entry.Entry.{Entry}
use Rattle.just_host_record.specs.declared.entry.Entry.TheVariants as entry
use Rattle.just_sched_history.specs.Match.{is_yes}
use Rattle.just_exec_work.specs.Steps.{is_code}

-- no miss, no failure, no signal, no end but with the code 0, no answer but a yes, and no check that found an output missing
abbrev pub is_favourable : Entry → Bool
is_favourable (entry.Missed path m) = false
is_favourable (entry.Failed c) = false
is_favourable (entry.Strayed child other) = false
is_favourable (entry.Signalled signal) = false
is_favourable (entry.Ended child status) = is_code (pos 0) status
is_favourable (entry.Asked prompt answer) = is_yes answer
is_favourable (entry.Checked outputs missing) = is_none missing
is_favourable (entry.Summed path sum) = true
is_favourable (entry.Probed path outputs seen) = true
is_favourable (entry.Saved path) = true
is_favourable (entry.Started child spec) = true
is_favourable (entry.Captured spec input status output) = true
is_favourable (entry.Printed stream text) = true
is_favourable (entry.Made path) = true

-- each entry of the stretch is favourable
abbrev pub IsFavourable : List Entry → Type 0
IsFavourable es = AllPass is_favourable es
