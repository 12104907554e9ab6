-- What stands against a run that is asked for, where it doesn't end well.
use Rattle.std.proofs.Common.{◌≡◌, ◌||◌, ◌++◌, inl, inr, ℕ, Bool, true, false, true≢false, List, [], Option, Some, None, Result, Ok, Err, IfErr, MatchOption, refl, sym, ◌∙◌, ap, subst}
use Rattle.std.specs.List.{list_all}
use Rattle.std.proofs.Math.Logic.{∥∥₁_map}
use Rattle.std.proofs.lemmas.List.Sums.{AllPass-from_list_all, list_all-from_AllPass}
use Rattle.just_host_record.specs.World.{World, Moment}
use Rattle.just_host_record.specs.declared.entry.Entry.{Entry}
use Rattle.just_sched_history.specs.Favourable.{is_favourable, IsFavourable}
use Rattle.just_sched_history.specs.Start.{run_over}
use Rattle.just_sched_history.specs.declared.plan.Plan.{Plan}
use Rattle.just_exec.specs.declared.error.Error.{Error}
use Rattle.just_cli_plan.specs.Own.{is_fault, is_uncaptured}
use Rattle.just_cli_plan.proofs.Steps.{refused_or_found}
use Rattle.just_cli.specs.declared.ended.Failure.{Failure}
use Rattle.just_cli.specs.declared.ended.Report.{Report}
use Rattle.just_cli.specs.Acts.{Act}
use Rattle.just_cli.specs.Answered.{Asking, AsksIn, IsBeside, call_failed, uncaptured, too_big, no_memory, Fits, IsAnswered, StoodAgainst, IsServed}
use Rattle.just_cli.specs.Asked.{Asked}
use Rattle.just_cli.specs.Record.{Stretches, IsBook, EndsIll, EndsUnopened, Hindered, before_book, in_book}
use Rattle.just_cli.specs.Request.{NoneFailed}
use Rattle.just_cli.specs.Run.{refusal}
use Rattle.just_cli.proofs.Falls.{gained_by_run, gained_unopened}

or_true : (a b : Bool) → b ≡ true → (a || b) ≡ true
or_true true b is = refl
or_true false b is = is

module _ (q : Asking) (listings : List Entry) (acts : List Act) (jobs : Option ℕ) (messages : List Bool) (quiet : Bool) (f : Failure) (before opened settled after : Moment) where
  abbrev Stood : Type 0
  Stood = StoodAgainst q listings acts jobs before opened after f

  -- a call that failed before the book
  hindered_before : f.plan ≡ None → (is_fault f.error || is_uncaptured f.error) ≡ true → EndsUnopened listings acts quiet f.error before opened after → Hindered listings acts f jobs before.entries after.entries
  hindered_before unplanned is k =
      let post = k.behind.first ++ k.behind.refusals in
      let s : Stretches before.entries after.entries =
      record { pre = k.prepared.0; mid = []; post = post; grew = gained_unopened before.entries opened.entries after.entries k.prepared.0 post k.prepared.1 k.behind.grew } in
      before_book s unplanned is k.prepared.2 refl

  -- or what else is beside what is asked
  stood_before : f.plan ≡ None → IsBeside q listings acts opened.world f.error → EndsUnopened listings acts quiet f.error before opened after → Stood
  stood_before unplanned (no_memory is) k = inl is
  stood_before unplanned (too_big big) k = inr (inl big)
  stood_before unplanned (call_failed is asks) k = inr (inr (hindered_before unplanned (ap (λ b. b || is_uncaptured f.error) is) k))
  stood_before unplanned (uncaptured is asks) k = inr (inr (hindered_before unplanned (or_true (is_fault f.error) (is_uncaptured f.error) is) k))

  -- where it is refused, nothing is asked for that is found, or it is refused beside that
  stood_against : (x : Asked) → f.plan ≡ None → Fits q listings acts opened.world (Err f.error) (Ok x) → EndsUnopened listings acts quiet f.error before opened after → Stood
  stood_against x unplanned (inl same) k = absurd (refused_or_found f.error x (sym same))
  stood_against x unplanned (inr beside) k = stood_before unplanned beside k

  module _ (p : Plan) (is : f.plan ≡ Some p) (k : EndsIll listings acts p jobs messages quiet f.history f.error before opened settled after) where
    -- the run of the book, as one over what the record had gained
    book_over : IsBook (run_over p jobs (before.entries ++ k.prepared.0)) f.history k.kept.gained
    book_over = subst (λ es. IsBook (run_over p jobs es) f.history k.kept.gained) k.prepared.1 (record { legal = k.kept.legal; closed = k.closed; matches = k.kept.matches })

    -- an entry of the book's stretch that isn't favourable
    hindered_within : (IsFavourable k.kept.gained → ⊥) → Hindered listings acts f jobs before.entries after.entries
    hindered_within none =
        let post = k.behind.first ++ k.behind.refusals in
        let s : Stretches before.entries after.entries =
        record { pre = k.prepared.0; mid = k.kept.gained; post = post; grew = gained_by_run before.entries opened.entries settled.entries after.entries k.prepared.0 k.kept.gained post k.prepared.1 k.kept.grew k.behind.grew } in
        in_book p s is k.prepared.2 book_over none

    stood_within : (b : Bool) → list_all is_favourable k.kept.gained ≡ b → Stood
    stood_within true all = inl (k.favoured (AllPass-from_list_all is_favourable k.kept.gained all))
    stood_within false all = inr (inr (hindered_within (λ good. true≢false (sym (list_all-from_AllPass is_favourable k.kept.gained good) ∙ all))))

module _ (q : Asking) (listings : List Entry) (acts : List Act) (jobs : Option ℕ) (before opened after : Moment) where
  abbrev ServedOver : Option World → Result Report Failure → Type 0
  ServedOver told result =
      MatchOption told (Unit {0}) (λ w.
      NoneFailed listings → (x : Asked) → AsksIn q acts (Ok x) → IfErr result (λ f. ∥ StoodAgainst q listings acts jobs before opened after f ∥₁))

  refusal_over : (told : Option World) (quiet : Bool) (e : Error) → IsAnswered q told listings acts opened.world (Err e) → EndsUnopened listings acts quiet e before opened after → ServedOver told (Err (refusal e))
  refusal_over None quiet e answered left = tt
  refusal_over (Some w) quiet e answered left =
      λ none x asks. ∣ stood_against q listings acts jobs [] quiet (refusal e) before opened opened after x refl (answered none (Ok x) asks tt) left ∣₁

  failure_over : (told : Option World) (settled : Moment) (messages : List Bool) (quiet : Bool) (f : Failure) (p : Plan) → f.plan ≡ Some p → ∥ EndsIll listings acts p jobs messages quiet f.history f.error before opened settled after ∥₁ → ServedOver told (Err f)
  failure_over None settled messages quiet f p is left = tt
  failure_over (Some w) settled messages quiet f p is left =
      λ none x asks. ∥∥₁_map left (λ k. stood_within q listings acts jobs messages quiet f before opened settled after p is k (list_all is_favourable k.kept.gained) refl)

  report_over : (told : Option World) (r : Report) → ServedOver told (Ok r)
  report_over None r = tt
  report_over (Some w) r = λ none x asks. tt

  -- a refusal serves what is asked for
  pub refusal_served : (quiet : Bool) (e : Error) → IsAnswered q before.world listings acts opened.world (Err e) → EndsUnopened listings acts quiet e before opened after → IsServed q listings acts jobs before opened after (Err (refusal e))
  refusal_served quiet e answered left = refusal_over before.world quiet e answered left

  -- and so does a run that failed
  pub failure_served : (settled : Moment) (messages : List Bool) (quiet : Bool) (f : Failure) (p : Plan) → f.plan ≡ Some p → ∥ EndsIll listings acts p jobs messages quiet f.history f.error before opened settled after ∥₁ → IsServed q listings acts jobs before opened after (Err f)
  failure_served settled messages quiet f p is left = failure_over before.world settled messages quiet f p is left

  -- one that ended well needs nothing
  pub report_served : (r : Report) → IsServed q listings acts jobs before opened after (Ok r)
  report_served r = report_over before.world r
