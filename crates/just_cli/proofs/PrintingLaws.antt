-- What a command prints is printed, from what the calls answered.
use Rattle.std.specs.Prelude.{IfOk, IfErr}
use Rattle.std.proofs.Common.{◌≡◌, ◌++◌, ℕ, Bool, false, List, [], ◌∷◌, Option, Some, None, Result, Ok, Err, refl, sym, ap, ◌∙◌, subst, append_assoc, append-nil}
use Rattle.just_host_record.specs.Record.{refused, IsOwnFault, IsNoMiss}
use Rattle.just_host_record.specs.declared.entry.Call.TheVariants as call
use Rattle.just_host_record.specs.declared.entry.Entry.{Entry}
use Rattle.just_host_record.specs.declared.entry.Entry.TheVariants as entry
use Rattle.just_host_record.specs.declared.entry.HostFault.{HostFault}
use Rattle.just_host_record.specs.declared.entry.Stream.TheVariants as stream
use Rattle.just_host_record.specs.World.{Moment}
use Rattle.just_sched_history.specs.declared.event.Event.{Event}
use Rattle.just_exec.specs.Codes.{exit_code}
use Rattle.just_exec.specs.declared.error.Error.{Error}
use Rattle.just_cli_texts.specs.declared.printed.Printed.{Printed}
use Rattle.just_cli.specs.declared.ended.Failure.{Failure}
use Rattle.just_cli.specs.declared.ended.Report.{Report}
use Rattle.just_cli_children.specs.Faults.{entries_of, print_error}
use Rattle.just_cli.specs.Printing.{told_line, told_beside, IsPrintError, IsUnprintedBy, IsPrinted, IsIdle}
use Rattle.just_cli.specs.Record.{IsTold}
use Rattle.just_cli.proofs.NewJustfile.{print_refused}
use Rattle.just_cli.proofs.Shown.{text_lost}

-- what is told beside a text
module _ (quiet : Bool) (old new : List Entry) (told : Option (List ℕ)) (r : Result (Unit {0}) Error) (line : List ℕ) (is : told ≡ Some line) where
  pub beside_told : IfOk r (λ x. new ≡ old ++ told_line quiet line) → IfOk r (λ x. new ≡ old ++ told_beside quiet told)
  beside_told grew = by_result r grew
    where
      by_result : (x : Result (Unit {0}) Error) → IfOk x (λ y. new ≡ old ++ told_line quiet line) → IfOk x (λ y. new ≡ old ++ told_beside quiet told)
      by_result (Ok y) so = so ∙ sym (ap (λ o. old ++ told_beside quiet o) is)
      by_result (Err e) so = tt

  pub beside_untold : IfErr r (λ e. (quiet ≡ false) × IsPrintError e × (new ≡ old ++ entries_of e)) → IfErr r (λ e. (line : List ℕ) × (told ≡ Some line) × (quiet ≡ false) × IsPrintError e × (new ≡ old ++ entries_of e))
  beside_untold why = by_result r why
    where
      by_result : (x : Result (Unit {0}) Error) → IfErr x (λ e. (quiet ≡ false) × IsPrintError e × (new ≡ old ++ entries_of e)) → IfErr x (λ e. (line : List ℕ) × (told ≡ Some line) × (quiet ≡ false) × IsPrintError e × (new ≡ old ++ entries_of e))
      by_result (Ok y) so = tt
      by_result (Err e) so = (line, is, so.0, so.1, so.2)

pub nothing_beside : (quiet : Bool) (old : List Entry) (told : Option (List ℕ)) → told ≡ None → old ≡ old ++ told_beside quiet told
nothing_beside quiet old told is = sym (ap (λ o. old ++ told_beside quiet o) is ∙ append-nil old)

module _ (p : Printed) (quiet : Bool) (old : List Entry) where
  -- the text, and the line behind it
  pub printed_both : (middle new : List Entry) → middle ≡ old ++ entry.Printed stream.Out p.text ∷ [] → new ≡ middle ++ told_beside quiet p.told → new ≡ old ++ entry.Printed stream.Out p.text ∷ told_beside quiet p.told
  printed_both middle new first second = second ∙ (ap (λ l. l ++ told_beside quiet p.told) first ∙ append_assoc old (entry.Printed stream.Out p.text ∷ []) (told_beside quiet p.told))

  pub no_line : (middle new : List Entry) (e : Error) → middle ≡ old ++ entry.Printed stream.Out p.text ∷ [] → (line : List ℕ) × (p.told ≡ Some line) × (quiet ≡ false) × IsPrintError e × (new ≡ middle ++ entries_of e) → IsUnprintedBy p quiet e old new
  no_line middle new e first (line, some, loud, why, grew) =
      IsUnprintedBy.no_line line some loud why (grew ∙ (ap (λ l. l ++ entries_of e) first ∙ append_assoc old (entry.Printed stream.Out p.text ∷ []) (entries_of e)))

  -- whatever tells the line
  pub all_printed : (middle new : List Entry) → middle ≡ old ++ entry.Printed stream.Out p.text ∷ [] → (r : Result (Unit {0}) Error) → IfOk r (λ x. new ≡ middle ++ told_beside quiet p.told)
      → IfOk r (λ x. new ≡ old ++ entry.Printed stream.Out p.text ∷ told_beside quiet p.told)
  all_printed middle new first (Ok x) second = printed_both middle new first second
  all_printed middle new first (Err e) second = tt

  pub all_unprinted : (middle new : List Entry) → middle ≡ old ++ entry.Printed stream.Out p.text ∷ [] → (r : Result (Unit {0}) Error)
      → IfErr r (λ e. (line : List ℕ) × (p.told ≡ Some line) × (quiet ≡ false) × IsPrintError e × (new ≡ middle ++ entries_of e)) → IfErr r (λ e. IsUnprintedBy p quiet e old new)
  all_unprinted middle new first (Ok x) why = tt
  all_unprinted middle new first (Err e) why = no_line middle new e first why

  pub no_text : (new : List Entry) (io : HostFault) (e : Error) → new ≡ old ++ refused [] io → e ≡ print_error io → IsOwnFault call.Print io → IsNoMiss io → IsUnprintedBy p quiet e old new
  no_text new io e grew is own never = IsUnprintedBy.no_text (text_lost io e is own never) (print_refused old new io e grew is)

module _ (p : Printed) (quiet : Bool) (before between after : Moment) (still : between.world ≡ before.world) (r : Result Report Failure) where
  pub is_printed : between.entries ≡ before.entries ++ entry.Printed stream.Out p.text ∷ told_beside quiet p.told → IsIdle between after r → IsPrinted p quiet before after r
  is_printed grew idle = printed_as r idle
    where
      printed_as : (x : Result Report Failure) → IsIdle between after x → IsPrinted p quiet before after x
      printed_as (Ok y) end = record { printed = (end.well, end.entries ∙ grew); unprinted = tt; world = end.world ∙ still }
      printed_as (Err f) end = absurd end.never

  pub is_unprinted : (e : Error) (h : List Event) → r ≡ Err (record { error = e; plan = None; history = h; code = exit_code e }) → h ≡ [] → IsUnprintedBy p quiet e before.entries between.entries → (es : List Entry) × (after.entries ≡ between.entries ++ es) × IsTold quiet e es
      → after.world ≡ between.world → IsPrinted p quiet before after r
  is_unprinted e h is no_history why tells world =
      subst (λ q. IsPrinted p quiet before after q) (sym is) (record { printed = tt; unprinted = ((refl, no_history, refl), (between.entries, why, tells)); world = world ∙ still })
