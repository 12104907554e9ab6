-- Words that ask for a text get it, or the error of a print that failed.
use Rattle.std.proofs.Common.{◌≡◌, ◌++◌, inl, inr, ℕ, false, List, [], None, Result, Err, refl, sym, ◌∙◌, ap, subst, append-nil}
use Rattle.just_host_record.specs.World.{Moment}
use Rattle.just_host_record.specs.Record.{refused, IsOwnFault, IsNoMiss}
use Rattle.just_host_record.specs.declared.entry.Call.TheVariants as call
use Rattle.just_host_record.specs.declared.entry.Entry.{Entry}
use Rattle.just_host_record.specs.declared.entry.HostFault.{HostFault}
use Rattle.just_host_record.specs.declared.entry.HostFault.TheVariants as fault
use Rattle.just_sched_history.specs.declared.event.Event.{Event}
use Rattle.just_cli.specs.declared.ended.Failure.{Failure}
use Rattle.just_cli.specs.declared.ended.Report.{Report}
use Rattle.just_exec.specs.declared.error.Error.{Error}
use Rattle.just_exec.specs.declared.error.Error.TheVariants as error
use Rattle.just_cli_plan.specs.Own.{OrMemory}
use Rattle.just_cli_children.specs.Faults.{entries_of, print_error}
use Rattle.just_cli.specs.Questions.{IsShown}
use Rattle.just_cli.specs.Record.{IsTold}
use Rattle.just_exec.specs.Codes.{exit_code}
use Rattle.just_cli.proofs.Runs.{ends_before}

-- the error of a text that wasn't printed has the entry of the refused print
pub print_entries : (io : HostFault) → entries_of (print_error io) ≡ refused [] io
print_entries (fault.Missed m) = refl
print_entries (fault.Failed c) = refl
print_entries fault.NoMemory = refl

-- a text is lost by a failed print, or want of memory
pub text_lost : (io : HostFault) (e : Error) → e ≡ print_error io → IsOwnFault call.Print io → IsNoMiss io → OrMemory (λ x. x ≡ error.StdoutIo (fault.Failed call.Print)) e
text_lost (fault.Missed m) e is own never = absurd never
text_lost (fault.Failed c) e is own never = inr (is ∙ ap (λ d. error.StdoutIo (fault.Failed d)) own)
text_lost fault.NoMemory e is own never = inl is

-- the text wasn't printed
pub unshown : (text : List ℕ) (before between after : Moment) (r : Result Report Failure) (io : HostFault) (e : Error) (h : List Event)
    → r ≡ Err (record { error = e; plan = None; history = h; code = exit_code e }) → h ≡ [] → e ≡ print_error io → IsOwnFault call.Print io → IsNoMiss io → between.entries ≡ before.entries ++ refused [] io
    → (es : List Entry) × (after.entries ≡ between.entries ++ es) × IsTold false e es → after.world ≡ before.world → IsShown text before after r
unshown text before between after r io e h is no_history error_is own never grew tells world =
    subst (λ q. IsShown text before after q) (sym is) (record {
      shown = tt;
      unshown = (refl, no_history, refl, text_lost io e error_is own never, ends_before [] false e before.entries between.entries after.entries (refused [] io) grew ([], tt, sym (ap entries_of error_is ∙ print_entries io)) tells);
      world = world;
    })

-- nor was it where memory was wanting for it
pub unprinted : (text : List ℕ) (before after : Moment) (r : Result Report Failure) (e : Error) (h : List Event)
    → r ≡ Err (record { error = e; plan = None; history = h; code = exit_code e }) → h ≡ [] → e ≡ error.NoMemory → (es : List Entry) × (after.entries ≡ before.entries ++ es) × IsTold false e es → after.world ≡ before.world → IsShown text before after r
unprinted text before after r e h is no_history wants tells world =
    subst (λ q. IsShown text before after q) (sym is) (record {
      shown = tt;
      unshown = (refl, no_history, refl, inl wants, ends_before [] false e before.entries before.entries after.entries [] (sym (append-nil before.entries)) ([], tt, sym (ap (λ x. entries_of x) wants)) tells);
      world = world;
    })

-- a text that is shown is the one that it is
pub shown_as : (shown line text : List ℕ) (before after : Moment) (r : Result Report Failure) → shown ≡ line → line ≡ text → IsShown shown before after r → IsShown text before after r
shown_as shown line text before after r is same shows = subst (λ t. IsShown t before after r) (is ∙ same) shows
