-- What follows for a run that failed, or came to its end, from what it left.
use Rattle.std.proofs.Common.{◌≡◌, ℕ, zero, suc, ◌+◌, ◌<◌, ◌++◌, inl, inr, Bool, true, false, cond, List, [], ◌∷◌, count_by, Contains, Option, Some, None, Result, Ok, Err, IfErr, MatchOption, refl, ap, sym, ◌∙◌, subst, append_assoc, arith}
use Rattle.std.proofs.Math.Bool.{Bool-set}
use Rattle.std.proofs.Math.Bridge.{le_prop}
use Rattle.std.proofs.Math.Logic.{∥∥₁_elim}
use Rattle.std.proofs.lemmas.List.{append_cancel_left}
use Rattle.std.proofs.lemmas.List.Elements.{All-contains, Contains-append_left, Contains-append_right}
use Rattle.std.proofs.lemmas.List.Sums.{sum_by-append, sum_by-cons}
use Rattle.just_host_record.specs.World.{Moment}
use Rattle.just_host_record.specs.Looks.{dash}
use Rattle.just_host_record.specs.Record.{refused, faults_of, misses_of, is_failed, is_missed}
use Rattle.just_path.specs.declared.host.Miss.{Miss}
use Rattle.just_path.specs.declared.host.Miss.TheVariants as miss
use Rattle.just_host_record.specs.declared.entry.Call.{Call}
use Rattle.just_host_record.specs.declared.entry.Call.TheVariants as call
use Rattle.just_host_record.specs.declared.entry.Entry.{Entry}
use Rattle.just_host_record.specs.declared.entry.Entry.TheVariants as entry
use Rattle.just_host_record.specs.declared.entry.HostFault.{HostFault}
use Rattle.just_host_record.specs.declared.entry.HostFault.TheVariants as fault
use Rattle.just_sched_history.specs.declared.event.Event.{Event}
use Rattle.just_sched_history.specs.declared.plan.Plan.{Plan}
use Rattle.just_sched_history.specs.declared.plan_node.PlanNode.{PlanNode}
use Rattle.just_sched_history.specs.Causes.{ShowsFailure, ShowsMiss}
use Rattle.just_sched_history.specs.Favourable.{is_favourable, IsFavourable}
use Rattle.just_cli.specs.declared.ended.Failure.{Failure}
use Rattle.just_cli.specs.declared.ended.Report.{Report}
use Rattle.just_exec.specs.declared.error.Error.{Error}
use Rattle.just_exec.specs.declared.error.Error.TheVariants as error
use Rattle.just_cli_plan.specs.Caused.{IsCaused}
use Rattle.just_cli_plan.specs.Own.{is_failed_call, is_missed_call}
use Rattle.just_env.specs.declared.search_error.SearchError.TheVariants as search
use Rattle.just_cli.specs.Acts.{Act}
use Rattle.just_cli_plan.specs.Own.{is_fault, is_miss}
use Rattle.just_env.specs.declared.env_error.OutputError.TheVariants as output
use Rattle.just_cli_plan.specs.Pairs.{entries_of as entries_in}
use Rattle.just_cli_plan.proofs.OutcomeLaws.{only_memory}
use Rattle.just_cli.specs.Preparing.{EndsActs}
use Rattle.just_cli.specs.Record.{EndsIll, EndsUnopened}

-- what a failure leaves: with no plan, a refusal before the book
abbrev pub Failed : List Entry → List Act → Option ℕ → List Bool → Bool → Result Report Failure → Moment → Moment → Moment → Moment → Type 0
Failed listings acts jobs messages quiet r before opened settled after =
    IfErr r (λ f. MatchOption f.plan (∥ EndsUnopened listings acts quiet f.error before opened after ∥₁) (λ p. ∥ EndsIll listings acts p jobs messages quiet f.history f.error before opened settled after ∥₁))

-- what a record gained before a book was opened, while it was open, and behind it; and where none was opened
pub gained_by_run : (old opened settled new pre mid post : List Entry) → opened ≡ old ++ pre → settled ≡ opened ++ mid → new ≡ settled ++ post → new ≡ old ++ (pre ++ (mid ++ post))
gained_by_run old opened settled new pre mid post first second third =
    third ∙ (ap (λ es. es ++ post) second ∙ (ap (λ es. (es ++ mid) ++ post) first ∙ (append_assoc (old ++ pre) mid post ∙ append_assoc old pre (mid ++ post))))

pub gained_unopened : (old between new pre post : List Entry) → between ≡ old ++ pre → new ≡ between ++ post → new ≡ old ++ (pre ++ post)
gained_unopened old between new pre post first second = second ∙ (ap (λ es. es ++ post) first ∙ append_assoc old pre post)

-- ---- counts

one_if : (b : Bool) → b ≡ true → ◌≡◌ {A = ℕ} (cond b 1 0) 1
one_if true e = refl
one_if false e = absurd (cc)

counted : (p : Entry → Bool) (es : List Entry) (x : Entry) → Contains es x → p x ≡ true → 0 < count_by p es
counted p [] x c q = absurd (omega (arith, c.1))
counted p (y ∷ es) x (zero, lt, is) q =
    omega (arith, sum_by-cons (λ e. cond (p e) 1 0) y es, one_if (p y) (subst (λ e. p e ≡ true) (sym is) q))
counted p (y ∷ es) x (suc k, lt, is) q =
    omega (arith, sum_by-cons (λ e. cond (p e) 1 0) y es, counted p es x (k, omega (arith, lt), is) q)

counted_parts : (p : Entry → Bool) (old pre mid post : List Entry) → count_by p (old ++ (pre ++ (mid ++ post))) ≡ count_by p old + (count_by p pre + (count_by p mid + count_by p post))
counted_parts p old pre mid post =
    omega (arith, sum_by-append (λ x. cond (p x) 1 0) old (pre ++ (mid ++ post)), sum_by-append (λ x. cond (p x) 1 0) pre (mid ++ post), sum_by-append (λ x. cond (p x) 1 0) mid post)

-- what is counted before the book, or while it is open, is more than was counted before
more_before : (p : Entry → Bool) (old new pre post : List Entry) → new ≡ old ++ (pre ++ post) → 0 < count_by p pre → count_by p old < count_by p new
more_before p old new pre post grew some = omega (arith, some, ap (λ es. count_by p es) grew, counted_parts p old pre [] post)

more_within : (p : Entry → Bool) (old new pre mid post : List Entry) → new ≡ old ++ (pre ++ (mid ++ post)) → 0 < count_by p mid → count_by p old < count_by p new
more_within p old new pre mid post grew some = omega (arith, some, ap (λ es. count_by p es) grew, counted_parts p old pre mid post)

-- what an error's call left is counted behind listings and misses
counted_behind : (p : Entry → Bool) (listings : List Entry) (acts : List Act) (e : Error) (es : List Entry) → EndsActs listings acts e es → ((parent : List ℕ) → 0 < count_by p (entries_in parent e)) → 0 < count_by p es
counted_behind p listings acts e es (among, parent, are, is, program) some =
    omega (arith, some parent, ap (λ xs. count_by p xs) is, sum_by-append (λ x. cond (p x) 1 0) listings (among ++ entries_in parent e), sum_by-append (λ x. cond (p x) 1 0) among (entries_in parent e))

-- a kind of entry that shows where a kind of error is told is counted
module _ (p : Entry → Bool) (q : Error → Bool)
    (shown : (nodes : List PlanNode) (h : List Event) (e : Error) (es : List Entry) → IsCaused nodes h e es → q e ≡ true → 0 < count_by p es)
    (refusal : (e : Error) → q e ≡ true → (parent : List ℕ) → 0 < count_by p (entries_in parent e)) where
  module _ (listings : List Entry) (acts : List Act) (jobs : Option ℕ) (messages : List Bool) (quiet : Bool) (h : List Event) (e : Error) (before opened settled after : Moment) where
    rises_unopened : EndsUnopened listings acts quiet e before opened after → q e ≡ true → count_by p before.entries < count_by p after.entries
    rises_unopened k is =
        let post = k.behind.first ++ k.behind.refusals in
        more_before p before.entries after.entries k.prepared.0 post (gained_unopened before.entries opened.entries after.entries k.prepared.0 post k.prepared.1 k.behind.grew)
        (counted_behind p listings acts e k.prepared.0 k.prepared.2 (refusal e is))

    rises_within : (plan : Plan) → EndsIll listings acts plan jobs messages quiet h e before opened settled after → q e ≡ true → count_by p before.entries < count_by p after.entries
    rises_within plan k is =
        let post = k.behind.first ++ k.behind.refusals in
        more_within p before.entries after.entries k.prepared.0 k.kept.gained post (gained_by_run before.entries opened.entries settled.entries after.entries k.prepared.0 k.kept.gained post k.prepared.1 k.kept.grew k.behind.grew)
        (shown plan.nodes h e k.kept.gained k.caused is)

    rises : (o : Option Plan) → MatchOption o (∥ EndsUnopened listings acts quiet e before opened after ∥₁) (λ plan. ∥ EndsIll listings acts plan jobs messages quiet h e before opened settled after ∥₁) → q e ≡ true
        → count_by p before.entries < count_by p after.entries
    rises None failed is = ∥∥₁_elim failed le_prop (λ k. rises_unopened k is)
    rises (Some plan) failed is = ∥∥₁_elim failed le_prop (λ k. rises_within plan k is)

failure_counted : (c : Call) (es : List Entry) → ShowsFailure c es → 0 < faults_of es
failure_counted c es (inl a) = counted is_failed es (entry.Failed c) a refl
failure_counted c es (inr b) = counted is_failed es (entry.Strayed b.1 b.2) b.3 refl

miss_counted : (m : Miss) (es : List Entry) → ShowsMiss m es → 0 < misses_of es
miss_counted m es c = counted is_missed es (entry.Missed c.0 m) c.1 refl

fault_shown : (nodes : List PlanNode) (h : List Event) (e : Error) (es : List Entry) → IsCaused nodes h e es → is_fault e ≡ true → 0 < faults_of es
fault_shown nodes h (error.FilesystemIo path (fault.Failed c)) es a is = failure_counted c es a.1
fault_shown nodes h (error.FilesystemIo path (fault.Missed m)) es a is = absurd (cc)
fault_shown nodes h (error.FilesystemIo path fault.NoMemory) es a is = absurd (cc)
fault_shown nodes h (error.ShellIo recipe shell (fault.Failed c)) es a is = failure_counted c es a.1
fault_shown nodes h (error.ShellIo recipe shell (fault.Missed m)) es a is = absurd (cc)
fault_shown nodes h (error.ShellIo recipe shell fault.NoMemory) es a is = absurd (cc)
fault_shown nodes h (error.Script recipe command (fault.Failed c)) es a is = failure_counted c es a.1
fault_shown nodes h (error.Script recipe command (fault.Missed m)) es a is = absurd (cc)
fault_shown nodes h (error.Script recipe command fault.NoMemory) es a is = absurd (cc)
fault_shown nodes h (error.Shebang recipe command argument (fault.Failed c)) es a is = failure_counted c es a.1
fault_shown nodes h (error.Shebang recipe command argument (fault.Missed m)) es a is = absurd (cc)
fault_shown nodes h (error.Shebang recipe command argument fault.NoMemory) es a is = absurd (cc)
fault_shown nodes h (error.Load path io) es a is = absurd a
fault_shown nodes h (error.CurrentDir io) es a is = absurd a
fault_shown nodes h (error.TempdirIo recipe (fault.Failed c)) es a is = failure_counted call.Temp es a.2
fault_shown nodes h (error.TempdirIo recipe (fault.Missed m)) es a is = absurd (cc)
fault_shown nodes h (error.TempdirIo recipe fault.NoMemory) es a is = absurd (cc)
fault_shown nodes h (error.CacheInputMissing path) es a is = absurd (cc)
fault_shown nodes h (error.CacheInputDirectory path) es a is = absurd (cc)
fault_shown nodes h (error.CacheEntryWrite path (fault.Failed c)) es a is = failure_counted call.Save es a.2
fault_shown nodes h (error.CacheEntryWrite path (fault.Missed m)) es a is = absurd (cc)
fault_shown nodes h (error.CacheEntryWrite path fault.NoMemory) es a is = absurd (cc)
fault_shown nodes h (error.GetConfirmation (fault.Failed c)) es a is = failure_counted call.Ask es a.1
fault_shown nodes h (error.GetConfirmation (fault.Missed m)) es a is = absurd (cc)
fault_shown nodes h (error.GetConfirmation fault.NoMemory) es a is = absurd (cc)
fault_shown nodes h (error.StdoutIo (fault.Failed c)) es a is = failure_counted call.Print es a.1
fault_shown nodes h (error.StdoutIo (fault.Missed m)) es a is = absurd (cc)
fault_shown nodes h (error.StdoutIo fault.NoMemory) es a is = absurd (cc)
fault_shown nodes h (error.WriteJustfile justfile io) es a is = absurd a
fault_shown nodes h (error.Search (search.StdinIo io)) es a is = absurd a
fault_shown nodes h (error.DotenvCommand command (output.Io io)) es a is = absurd a
fault_shown nodes h (error.ChooserInvoke shell arguments chooser io) es a is = absurd a
fault_shown nodes h (error.ChooserRead chooser io) es a is = absurd a
fault_shown nodes h (error.ChooserWrite chooser io) es a is = absurd a
fault_shown nodes h (error.EditorInvoke editor io) es a is = absurd a
fault_shown nodes h (error.CommandInvoke binary arguments io) es a is = absurd a
fault_shown nodes h (error.Search (search.TempdirIo io)) es a is = absurd a
fault_shown nodes h _ es a is = absurd (cc)

miss_shown : (nodes : List PlanNode) (h : List Event) (e : Error) (es : List Entry) → IsCaused nodes h e es → is_miss e ≡ true → 0 < misses_of es
miss_shown nodes h (error.FilesystemIo path (fault.Missed m)) es a is = miss_counted m es a.1
miss_shown nodes h (error.FilesystemIo path (fault.Failed c)) es a is = absurd (cc)
miss_shown nodes h (error.FilesystemIo path fault.NoMemory) es a is = absurd (cc)
miss_shown nodes h (error.ShellIo recipe shell (fault.Failed c)) es a is = absurd (cc)
miss_shown nodes h (error.ShellIo recipe shell (fault.Missed m)) es a is = absurd a
miss_shown nodes h (error.ShellIo recipe shell fault.NoMemory) es a is = absurd (cc)
miss_shown nodes h (error.Script recipe command (fault.Failed c)) es a is = absurd (cc)
miss_shown nodes h (error.Script recipe command (fault.Missed m)) es a is = absurd a
miss_shown nodes h (error.Script recipe command fault.NoMemory) es a is = absurd (cc)
miss_shown nodes h (error.Shebang recipe command argument (fault.Failed c)) es a is = absurd (cc)
miss_shown nodes h (error.Shebang recipe command argument (fault.Missed m)) es a is = absurd a
miss_shown nodes h (error.Shebang recipe command argument fault.NoMemory) es a is = absurd (cc)
miss_shown nodes h (error.Load path io) es a is = absurd a
miss_shown nodes h (error.CurrentDir io) es a is = absurd a
miss_shown nodes h (error.TempdirIo recipe (fault.Missed m)) es a is = miss_counted m es a.1
miss_shown nodes h (error.TempdirIo recipe (fault.Failed c)) es a is = absurd (cc)
miss_shown nodes h (error.TempdirIo recipe fault.NoMemory) es a is = absurd (cc)
miss_shown nodes h (error.CacheInputMissing path) es a is = miss_counted miss.NotFound es (path, a.missed)
miss_shown nodes h (error.CacheInputDirectory path) es a is = miss_counted miss.IsFolder es (path, a.missed)
miss_shown nodes h (error.CacheEntryWrite path (fault.Failed c)) es a is = absurd (cc)
miss_shown nodes h (error.CacheEntryWrite path (fault.Missed m)) es a is = absurd a
miss_shown nodes h (error.CacheEntryWrite path fault.NoMemory) es a is = absurd (cc)
miss_shown nodes h (error.GetConfirmation (fault.Failed c)) es a is = absurd (cc)
miss_shown nodes h (error.GetConfirmation (fault.Missed m)) es a is = absurd a
miss_shown nodes h (error.GetConfirmation fault.NoMemory) es a is = absurd (cc)
miss_shown nodes h (error.StdoutIo (fault.Failed c)) es a is = absurd (cc)
miss_shown nodes h (error.StdoutIo (fault.Missed m)) es a is = absurd a
miss_shown nodes h (error.StdoutIo fault.NoMemory) es a is = absurd (cc)
miss_shown nodes h (error.WriteJustfile justfile io) es a is = absurd a
miss_shown nodes h (error.Search (search.StdinIo io)) es a is = absurd a
miss_shown nodes h (error.DotenvCommand command (output.Io io)) es a is = absurd a
miss_shown nodes h (error.ChooserInvoke shell arguments chooser io) es a is = absurd a
miss_shown nodes h (error.ChooserRead chooser io) es a is = absurd a
miss_shown nodes h (error.ChooserWrite chooser io) es a is = absurd a
miss_shown nodes h (error.EditorInvoke editor io) es a is = absurd a
miss_shown nodes h (error.CommandInvoke binary arguments io) es a is = absurd a
miss_shown nodes h (error.Search (search.TempdirIo io)) es a is = absurd a
miss_shown nodes h _ es a is = absurd (cc)

-- the entry of a refused call is counted
failed_counted : (path : List ℕ) (io : HostFault) → is_failed_call (Some (path, io)) ≡ true → 0 < faults_of (refused path io)
failed_counted path (fault.Failed c) is = omega arith
failed_counted path (fault.Missed m) is = absurd (cc)
failed_counted path fault.NoMemory is = absurd (cc)

missed_counted : (path : List ℕ) (io : HostFault) → is_missed_call (Some (path, io)) ≡ true → 0 < misses_of (refused path io)
missed_counted path (fault.Missed m) is = omega arith
missed_counted path (fault.Failed c) is = absurd (cc)
missed_counted path fault.NoMemory is = absurd (cc)

fault_refused : (e : Error) → is_fault e ≡ true → (parent : List ℕ) → 0 < faults_of (entries_in parent e)
fault_refused (error.FilesystemIo path io) is parent = failed_counted path io is
fault_refused (error.ShellIo recipe shell io) is parent = failed_counted [] io is
fault_refused (error.Load path io) is parent = failed_counted path io is
fault_refused (error.CurrentDir io) is parent = failed_counted [] io is
fault_refused (error.Script recipe command io) is parent = failed_counted [] io is
fault_refused (error.Shebang recipe command argument io) is parent = failed_counted [] io is
fault_refused (error.TempdirIo recipe io) is parent = failed_counted [] io is
fault_refused (error.CacheInputMissing path) is parent = absurd (cc)
fault_refused (error.CacheInputDirectory path) is parent = absurd (cc)
fault_refused (error.CacheEntryWrite path io) is parent = failed_counted path io is
fault_refused (error.GetConfirmation io) is parent = failed_counted [] io is
fault_refused (error.StdoutIo io) is parent = failed_counted [] io is
fault_refused (error.WriteJustfile justfile io) is parent = failed_counted justfile io is
fault_refused (error.Search (search.StdinIo io)) is parent = failed_counted dash io is
fault_refused (error.DotenvCommand command (output.Io io)) is parent = failed_counted parent io is
fault_refused (error.ChooserInvoke shell arguments chooser io) is parent = failed_counted parent io is
fault_refused (error.ChooserRead chooser io) is parent = failed_counted parent io is
fault_refused (error.ChooserWrite chooser io) is parent = failed_counted parent io is
fault_refused (error.EditorInvoke editor io) is parent = failed_counted [] io is
fault_refused (error.CommandInvoke binary arguments io) is parent = failed_counted [] io is
fault_refused (error.Search (search.TempdirIo io)) is parent = failed_counted parent io is
fault_refused _ is parent = absurd (cc)

miss_refused : (e : Error) → is_miss e ≡ true → (parent : List ℕ) → 0 < misses_of (entries_in parent e)
miss_refused (error.FilesystemIo path io) is parent = missed_counted path io is
miss_refused (error.ShellIo recipe shell io) is parent = missed_counted [] io is
miss_refused (error.Load path io) is parent = missed_counted path io is
miss_refused (error.CurrentDir io) is parent = missed_counted [] io is
miss_refused (error.Script recipe command io) is parent = missed_counted [] io is
miss_refused (error.Shebang recipe command argument io) is parent = missed_counted [] io is
miss_refused (error.TempdirIo recipe io) is parent = missed_counted [] io is
miss_refused (error.CacheInputMissing path) is parent = missed_counted path (fault.Missed miss.NotFound) is
miss_refused (error.CacheInputDirectory path) is parent = missed_counted path (fault.Missed miss.IsFolder) is
miss_refused (error.CacheEntryWrite path io) is parent = missed_counted path io is
miss_refused (error.GetConfirmation io) is parent = missed_counted [] io is
miss_refused (error.StdoutIo io) is parent = missed_counted [] io is
miss_refused (error.WriteJustfile justfile io) is parent = missed_counted justfile io is
miss_refused (error.Search (search.StdinIo io)) is parent = missed_counted dash io is
miss_refused (error.DotenvCommand command (output.Io io)) is parent = missed_counted parent io is
miss_refused (error.ChooserInvoke shell arguments chooser io) is parent = missed_counted parent io is
miss_refused (error.ChooserRead chooser io) is parent = missed_counted parent io is
miss_refused (error.ChooserWrite chooser io) is parent = missed_counted parent io is
miss_refused (error.EditorInvoke editor io) is parent = missed_counted [] io is
miss_refused (error.CommandInvoke binary arguments io) is parent = missed_counted [] io is
miss_refused (error.Search (search.TempdirIo io)) is parent = missed_counted parent io is
miss_refused _ is parent = absurd (cc)

-- the failure of a call whose error is told is counted in the record
pub faults_rise : (listings : List Entry) (acts : List Act) (jobs : Option ℕ) (messages : List Bool) (quiet : Bool) (r : Result Report Failure) (before opened settled after : Moment) → Failed listings acts jobs messages quiet r before opened settled after
    → IfErr r (λ f. is_fault f.error ≡ true → faults_of before.entries < faults_of after.entries)
faults_rise listings acts jobs messages quiet (Ok x) before opened settled after failed = tt
faults_rise listings acts jobs messages quiet (Err f) before opened settled after failed =
    λ is. rises is_failed is_fault fault_shown fault_refused listings acts jobs messages quiet f.history f.error before opened settled after f.plan failed is

pub misses_rise : (listings : List Entry) (acts : List Act) (jobs : Option ℕ) (messages : List Bool) (quiet : Bool) (r : Result Report Failure) (before opened settled after : Moment) → Failed listings acts jobs messages quiet r before opened settled after
    → IfErr r (λ f. is_miss f.error ≡ true → misses_of before.entries < misses_of after.entries)
misses_rise listings acts jobs messages quiet (Ok x) before opened settled after failed = tt
misses_rise listings acts jobs messages quiet (Err f) before opened settled after failed =
    λ is. rises is_missed is_miss miss_shown miss_refused listings acts jobs messages quiet f.history f.error before opened settled after f.plan failed is

-- ---- favourable records

-- want of memory, as a test
abbrev is_wanting : Error → Bool
is_wanting error.NoMemory = true
is_wanting _ = false

wanting : (e : Error) → is_wanting e ≡ true → e ≡ error.NoMemory
wanting error.NoMemory is = refl
wanting _ is = absurd (cc)

module _ (listings : List Entry) (acts : List Act) (jobs : Option ℕ) (messages : List Bool) (quiet : Bool) (before opened settled after : Moment) where
  memory_by : (o : Option Plan) (h : List Event) (e : Error) → MatchOption o (∥ EndsUnopened listings acts quiet e before opened after ∥₁) (λ plan. ∥ EndsIll listings acts plan jobs messages quiet h e before opened settled after ∥₁)
      → (p : Plan) → o ≡ Some p → (es : List Entry) → after.entries ≡ before.entries ++ es → IsFavourable es → e ≡ error.NoMemory
  memory_by None h e failed p is es grew good = absurd (cc)
  memory_by (Some plan) h e failed p is es grew good =
      wanting e (∥∥₁_elim failed (Bool-set _ _) (λ k.
      let post = k.behind.first ++ k.behind.refusals in
      let same : k.prepared.0 ++ (k.kept.gained ++ post) ≡ es =
      append_cancel_left before.entries (k.prepared.0 ++ (k.kept.gained ++ post)) es (sym (gained_by_run before.entries opened.entries settled.entries after.entries k.prepared.0 k.kept.gained post k.prepared.1 k.kept.grew k.behind.grew) ∙ grew) in
      ap (λ y. is_wanting y) (only_memory plan.nodes h e k.kept.gained k.caused (λ x c. All-contains (λ y. is_favourable y ≡ true) es x good
      (subst (λ ys. Contains ys x) same (Contains-append_right k.prepared.0 (k.kept.gained ++ post) x (Contains-append_left k.kept.gained post x c)))))))

  -- a run that failed over a favourable record wanted memory
  pub memory_wanted : (r : Result Report Failure) → Failed listings acts jobs messages quiet r before opened settled after
      → IfErr r (λ f. (p : Plan) → f.plan ≡ Some p → (es : List Entry) → after.entries ≡ before.entries ++ es → IsFavourable es → f.error ≡ error.NoMemory)
  memory_wanted (Ok x) failed = tt
  memory_wanted (Err f) failed = memory_by f.plan f.history f.error failed
