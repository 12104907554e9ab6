-- A justfile is written and told of, from what the calls answered.
use Rattle.std.proofs.Common.{◌≡◌, ◌++◌, ℕ, Bool, true, false, List, [], ◌∷◌, Option, Some, None, Result, Ok, Err, IfOk, IfErr, refl, sym, ap, ◌∙◌, subst, append_assoc, append-nil}
use Rattle.just_host_record.specs.declared.entry.Entry.{Entry}
use Rattle.just_host_record.specs.declared.entry.Entry.TheVariants as entry
use Rattle.just_host_record.specs.declared.entry.HostFault.{HostFault}
use Rattle.just_host_record.specs.declared.entry.HostFault.TheVariants as fault
use Rattle.just_host_record.specs.declared.entry.Stream.TheVariants as stream
use Rattle.just_host_record.specs.Changes.{place_written, written, Changes}
use Rattle.just_host_record.specs.Record.{refused}
use Rattle.just_host_record.specs.World.{World, Moment}
use Rattle.just_sched_history.specs.declared.event.Event.{Event}
use Rattle.just_exec.specs.Codes.{exit_code}
use Rattle.just_exec.specs.declared.error.Error.{Error}
use Rattle.just_cli.specs.declared.ended.Failure.{Failure}
use Rattle.just_cli.specs.declared.ended.Report.{Report}
use Rattle.just_cli_children.specs.Faults.{entries_of, print_error, write_error}
use Rattle.just_cli.specs.Printing.{told_line, IsPrintError, IsIdle}
use Rattle.just_cli.specs.Record.{IsTold}
use Rattle.just_cli.specs.Written.{written_line, Writes, IsUnwritten, IsWritten}
use Rattle.just_cli.proofs.Shown.{print_entries}

-- ---- the line

pub line_quiet : (old : List Entry) (quiet : Bool) (line : List ℕ) → quiet ≡ true → old ≡ old ++ told_line quiet line
line_quiet old quiet line is = sym (ap (λ b. old ++ told_line b line) is ∙ append-nil old)

pub line_told : (old new : List Entry) (quiet : Bool) (line : List ℕ) → quiet ≡ false → new ≡ old ++ entry.Printed stream.Err line ∷ [] → new ≡ old ++ told_line quiet line
line_told old new quiet line is grew = grew ∙ sym (ap (λ b. old ++ told_line b line) is)

-- the error of a refused print has its entry
pub print_refused : (old new : List Entry) (io : HostFault) (e : Error) → new ≡ old ++ refused [] io → e ≡ print_error io → new ≡ old ++ entries_of e
print_refused old new io e grew is = grew ∙ ap (λ es. old ++ es) (sym (ap (λ x. entries_of x) is ∙ print_entries io))

-- ---- the file

-- the error of a refused write has its entry
pub write_entries : (path : List ℕ) (io : HostFault) → entries_of (write_error path io) ≡ refused path io
write_entries path (fault.Missed m) = refl
write_entries path (fault.Failed c) = refl
write_entries path fault.NoMemory = refl

pub write_refused : (path given : List ℕ) (old new : List Entry) (io : HostFault) (e : Error) → given ≡ path → new ≡ old ++ refused given io → e ≡ write_error path io → new ≡ old ++ entries_of e
write_refused path given old new io e same grew is =
    grew ∙ (ap (λ p. old ++ refused p io) same ∙ ap (λ es. old ++ es) (sym (ap (λ x. entries_of x) is ∙ write_entries path io)))

-- the line behind the file
pub told_behind : (old middle new line : List Entry) → middle ≡ old ++ [] → new ≡ middle ++ line → new ≡ old ++ line
told_behind old middle new line same grew = grew ∙ ap (λ xs. xs ++ line) (same ∙ append-nil old)

-- a path that is written so is the path itself
pub writes_path : (path given : List ℕ) (bytes text : List ℕ) (told after : Option World) (r : Result (Unit {0}) HostFault) → given ≡ path → bytes ≡ text
    → Changes (λ w. written w given bytes) (λ w place. place_written w given ≡ Ok place) told after r → Changes (λ w. written w path text) (λ w place. place_written w path ≡ Ok place) told after r
writes_path path given bytes text told after r path_is text_is changes =
    subst (λ (t : List ℕ). Changes (λ w. written w path t) (λ w place. place_written w path ≡ Ok place) told after r) text_is
    (subst (λ (p : List ℕ). Changes (λ w. written w p bytes) (λ w place. place_written w p ≡ Ok place) told after r) path_is changes)

-- whatever nothing it answers
any_ok : (path text : List ℕ) (told after : Option World) (x : Unit {0}) → Writes path text told after (Ok x) → Writes path text told after (Ok tt)
any_ok path text None after x writes = writes
any_ok path text (Some w) after x writes = writes

-- it is written, and told of
pub wrote : (path text : List ℕ) (quiet : Bool) (line : List ℕ) (told middle after : Option World) (x : Unit {0}) (old mid new : List Entry) (r : Result (Unit {0}) Error)
    → Writes path text told middle (Ok x) → after ≡ middle → mid ≡ old ++ [] → line ≡ written_line path → IfOk r (λ y. new ≡ mid ++ told_line quiet line)
    → IfOk r (λ y. Writes path text told after (Ok tt) × (new ≡ old ++ told_line quiet (written_line path)))
wrote path text quiet line told middle after x old mid new (Ok y) writes world none is tells =
    (subst (λ w. Writes path text told w (Ok tt)) (sym world) (any_ok path text told middle x writes), told_behind old mid new (told_line quiet line) none tells ∙ ap (λ l. old ++ told_line quiet l) is)
wrote path text quiet line told middle after x old mid new (Err e) writes world none is tells = tt

-- it is written, and the line is lost
pub not_told : (path text : List ℕ) (quiet : Bool) (told middle after : Option World) (x : Unit {0}) (old mid new : List Entry) (r : Result (Unit {0}) Error)
    → Writes path text told middle (Ok x) → after ≡ middle → mid ≡ old ++ [] → IfErr r (λ e. (quiet ≡ false) × IsPrintError e × (new ≡ mid ++ entries_of e))
    → IfErr r (λ e. IsUnwritten path text quiet told after e × (new ≡ old ++ entries_of e))
not_told path text quiet told middle after x old mid new (Ok y) writes world none lost = tt
not_told path text quiet told middle after x old mid new (Err e) writes world none lost =
    (IsUnwritten.untold lost.0 lost.1 (subst (λ w. Writes path text told w (Ok tt)) (sym world) (any_ok path text told middle x writes)), told_behind old mid new (entries_of e) none lost.2)

-- ---- the end

-- it isn't written, or not told of
pub unwritten_end : (path text : List ℕ) (quiet : Bool) (before between after : Moment) (r : Result Report Failure) (e : Error) (h : List Event)
    → r ≡ Err (record { error = e; plan = None; history = h; code = exit_code e }) → h ≡ [] → IsUnwritten path text quiet before.world between.world e → between.entries ≡ before.entries ++ entries_of e
    → (es : List Entry) × (after.entries ≡ between.entries ++ es) × IsTold quiet e es → after.world ≡ between.world → IsWritten path text quiet before after r
unwritten_end path text quiet before between after r e h is no_history why grew tells world =
    subst (λ q. IsWritten path text quiet before after q) (sym is) (record {
      written = tt;
      unwritten = (
        (refl, no_history, refl),
        subst (λ w. IsUnwritten path text quiet before.world w e) (sym world) why,
        (tells.0, tells.1 ∙ (ap (λ l. l ++ tells.0) grew ∙ append_assoc before.entries (entries_of e) tells.0), tells.2),
      );
    })

-- it is written, and told of
pub written_end : (path text : List ℕ) (quiet : Bool) (before between after : Moment) (r : Result Report Failure) → Writes path text before.world between.world (Ok tt) × (between.entries ≡ before.entries ++ told_line quiet (written_line path)) → IsIdle between after r
    → IsWritten path text quiet before after r
written_end path text quiet before between after (Ok x) wrote_it idle = record {
  written = (idle.well, subst (λ w. Writes path text before.world w (Ok tt)) (sym idle.world) wrote_it.0, idle.entries ∙ wrote_it.1);
  unwritten = tt;
}
written_end path text quiet before between after (Err f) wrote_it idle = absurd idle.never
