-- What a run leaves in its host's record.
use Rattle.std.specs.Prelude.{ℕ, ◌≡◌, ◌<◌, ◌++◌, ◌⊎◌, ◌||◌, Bool, true, false, List, [], ◌∷◌, length, Option, Some, None}
use Rattle.std.specs.List.{list_any, AllByRecursion}
use Rattle.just_host_record.specs.declared.entry.Call.TheVariants as call
use Rattle.just_host_record.specs.declared.entry.Entry.{Entry}
use Rattle.just_host_record.specs.declared.entry.Entry.TheVariants as entry
use Rattle.just_host_record.specs.declared.entry.Stream.TheVariants as stream
use Rattle.just_host_record.specs.Record.{is_failed, is_missed, is_started}
use Rattle.just_host_record.specs.World.{Moment}
use Rattle.just_sched_history.specs.declared.event.Event.{Event}
use Rattle.just_sched_history.specs.declared.event.Verdict.{Verdict}
use Rattle.just_sched_history.specs.declared.plan.Plan.{Plan}
use Rattle.just_sched_history.specs.CacheRule.{GoesByCacheRule, IsSkippedByLook}
use Rattle.just_sched_history.specs.Cached.{is_cached}
use Rattle.just_sched_history.specs.Favourable.{IsFavourable}
use Rattle.just_sched_history.specs.Idle.{HasWork}
use Rattle.just_sched_history.specs.Legal.{Run, IsLegal, IsClosed, IsComplete}
use Rattle.just_sched_history.specs.Match.{Matches}
use Rattle.just_sched_history.specs.Start.{run_over, start_with, IsKept}
use Rattle.just_sched_history.specs.State.{has_caught}
use Rattle.just_sched_history.specs.Verdict.{IsVerdict, NoneDecides}
use Rattle.just_cli_plan.specs.Caused.{IsCaused}
use Rattle.just_search.specs.Removals.{with_entries, RemovesAll, RemovesSome, InTurn, TriesFolder}
use Rattle.just_cli.specs.Acts.{Act, folders_in}
use Rattle.just_cli_plan.specs.Own.{is_fault, is_uncaptured}
use Rattle.just_cli_plan.specs.Outcome.{IsErrorFor}
use Rattle.just_cli.specs.declared.ended.Failure.{Failure}
use Rattle.just_cli.specs.Preparing.{EndsWith, LeavesActs, EndsActs}
use Rattle.just_cli.specs.Quiet.{tells}
use Rattle.just_exec.specs.Texts.{error_text}
use Rattle.just_exec.specs.declared.error.Error.{Error}
use Rattle.just_exec.specs.declared.error.Error.TheVariants as error

-- What a run adds to the record: a stretch before its book was opened, one while it was open, and one behind it.
pub record Stretches (old new : List Entry) : Type 0 where
  pub pre : List Entry
  pub mid : List Entry
  pub post : List Entry
  pub grew : new ≡ old ++ (pre ++ (mid ++ post))

-- a fault is printed once to standard error, as its text and a newline; the print may fail, and wanting memory leaves nothing
abbrev pub IsPrinted : Error → List Entry → Type 0
IsPrinted e es = (es ≡ entry.Printed stream.Err (error_text e ++ 10 ∷ []) ∷ []) ⊎ ((es ≡ entry.Failed call.Print ∷ []) ⊎ (es ≡ []))

-- what telling an error leaves: nothing, where it is one that isn't told
abbrev pub IsTold : Bool → Error → List Entry → Type 0
IsTold quiet e es = ((tells quiet e ≡ true) × IsPrinted e es) ⊎ ((tells quiet e ≡ false) × (es ≡ []))

-- to remove each of these folders is tried, with what stands in it, or the first of them where memory is wanting: what that makes of a told world and leaves
-- in the record
abbrev pub Removes : List (List ℕ) → Moment → Moment → Type 0
Removes folders before after = (RemovesAll before folders after × InTurn TriesFolder before folders after) ⊎ RemovesSome before folders after

-- misses and failures alone
abbrev pub AreRefusals : List Entry → Type 0
AreRefusals es = AllByRecursion (λ e. (is_missed e || is_failed e) ≡ true) es

-- What stands behind the moment when the book was closed: the entry of the error that is told, if one is, and behind it misses and failures alone, as the
-- temporary folders are removed.
pub record EndsBehind (folders : List (List ℕ)) (tells : List Entry → Type 0) (settled after : Moment) : Type 0 where
  pub first : List Entry
  pub refusals : List Entry
  pub grew : after.entries ≡ settled.entries ++ (first ++ refusals)
  pub told_error : tells first
  pub are : AreRefusals refusals
  pub removed : Removes folders (with_entries settled first) after

abbrev pub is_captured : Entry → Bool
is_captured (entry.Missed path m) = false
is_captured (entry.Failed c) = false
is_captured (entry.Asked prompt answer) = false
is_captured (entry.Summed path sum) = false
is_captured (entry.Probed path outputs look) = false
is_captured (entry.Checked outputs missing) = false
is_captured (entry.Saved path) = false
is_captured (entry.Started child spec) = false
is_captured (entry.Ended child status) = false
is_captured (entry.Captured spec input status output) = true
is_captured (entry.Strayed child other) = false
is_captured (entry.Signalled signal) = false
is_captured (entry.Printed stream text) = false
is_captured (entry.Made folder) = false

-- no child was started or run to its end, and nothing failed
pub record IsQuiet (es : List Entry) : Type 0 where
  pub no_child : list_any is_started es ≡ false
  pub no_capture : list_any is_captured es ≡ false
  pub no_failure : list_any is_failed es ≡ false

-- The stretch of the record while the book was open is matched by a legal and closed history of the run.
pub record IsBook (s : Run) (h : List Event) (mid : List Entry) : Type 0 where
  pub legal : IsLegal s h
  pub closed : IsClosed s h
  pub matches : Matches s h mid

-- the record gained entries of which that holds
abbrev pub Gains : (List Entry → Type 0) → Moment → Moment → Type 0
Gains holds before after = (es : List Entry) × (after.entries ≡ before.entries ++ es) × holds es

-- each cached body went by the cache rule
abbrev pub GoByCacheRule : Run → List Event → Type 0
GoByCacheRule s h = (n : ℕ) → is_cached s.nodes n ≡ true → GoesByCacheRule s h n

-- A run that ended well: behind the listings, the acts and the misses of its preparation its book was opened, and closed when the record had gained just the
-- entries of its history, which is legal and complete: no node failed, and each was run to its end, or skipped: a cached body exactly where the look at its
-- entry was full. Behind these the temporary folders were removed.
pub record EndsWell (listings : List Entry) (acts : List Act) (plan : Plan) (jobs : Option ℕ) (h : List Event) (before opened settled after : Moment) : Type 0 where
  pub prepared : Gains (LeavesActs listings acts) before opened
  pub kept : IsKept (start_with plan jobs opened) h settled
  pub closed : IsClosed (run_over plan jobs opened.entries) h
  pub well : NoneDecides (run_over plan jobs opened.entries) h
  pub complete : IsComplete (run_over plan jobs opened.entries) h
  pub cached : GoByCacheRule (run_over plan jobs opened.entries) h
  pub skipped : (n : ℕ) → n < length plan.nodes → is_cached plan.nodes n ≡ true → IsSkippedByLook plan.nodes h n
  pub behind : EndsBehind (folders_in acts) (λ es. es ≡ []) settled after

-- A run that failed: its error is that of the history's verdict, and the record shows its cause; a favourable record shows
-- none. A signal was caught, or nothing was left to do, so it didn't stop at its first failure. Behind the entries of its
-- history the error was told, and the temporary folders were removed.
pub record EndsIll (listings : List Entry) (acts : List Act) (plan : Plan) (jobs : Option ℕ) (messages : List Bool) (quiet : Bool) (h : List Event) (e : Error)
    (before opened settled after : Moment) : Type 0 where
  pub prepared : Gains (LeavesActs listings acts) before opened
  pub kept : IsKept (start_with plan jobs opened) h settled
  pub closed : IsClosed (run_over plan jobs opened.entries) h
  pub verdict : Verdict
  pub judged : IsVerdict (run_over plan jobs opened.entries) h verdict
  pub decided : IsErrorFor plan.nodes messages h verdict (Some e)
  pub cached : GoByCacheRule (run_over plan jobs opened.entries) h
  pub nothing_left : (has_caught h ≡ true) ⊎ (HasWork (run_over plan jobs opened.entries) h → ⊥)
  pub caused : IsCaused plan.nodes h e kept.gained
  pub favoured : IsFavourable kept.gained → e ≡ error.NoMemory
  pub behind : EndsBehind (folders_in acts) (IsTold quiet e) settled after

-- A run that was refused before its book was opened: behind listings, acts and misses the entry of the refused call; the error was told, and the temporary
-- folders were removed.
pub record EndsUnopened (listings : List Entry) (acts : List Act) (quiet : Bool) (e : Error) (before between after : Moment) : Type 0 where
  pub prepared : Gains (EndsActs listings acts e) before between
  pub behind : EndsBehind (folders_in acts) (IsTold quiet e) between after

-- A refusal before the book, where no run is asked for: behind listings and misses the entry of the refused call, and the error was told.
pub record EndsBefore (listings : List Entry) (quiet : Bool) (e : Error) (old new : List Entry) : Type 0 where
  pub stretches : Stretches old new
  pub prepared : EndsWith listings e stretches.pre
  pub unopened : stretches.mid ≡ []
  pub told : IsTold quiet e stretches.post

-- What a record shows that stood against a run: before its book a failed call of the host, or a child that couldn't be run to its end; or in the stretch
-- of its book an entry that isn't favourable.
pub data Hindered (listings : List Entry) (acts : List Act) (f : Failure) (jobs : Option ℕ) (old new : List Entry) : Type 0 where
  before_book : (s : Stretches old new) → f.plan ≡ None → (is_fault f.error || is_uncaptured f.error) ≡ true → EndsActs listings acts f.error s.pre → s.mid ≡ [] → Hindered listings acts f jobs old new
  in_book : (p : Plan) (s : Stretches old new) → f.plan ≡ Some p → LeavesActs listings acts s.pre → IsBook (run_over p jobs (old ++ s.pre)) f.history s.mid → (IsFavourable s.mid → ⊥) → Hindered listings acts f jobs old new
