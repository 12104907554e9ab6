-- That a record shows the error of a run that failed.
use Rattle.std.proofs.Common.{◌≡◌, ◌≢◌, ◌⊎◌, ℕ, ℤ, suc, ◌-◌, inl, inr, Bool, true, false, List, [], ◌∷◌, length, slice_get, Contains, Option, Some, None, pos, true≢false, refl, ap, sym, ◌∙◌, subst, arith}
use Rattle.std.specs.Prelude.{slice_index_or}
use Rattle.std.specs.List.{last_or}
use Rattle.std.specs.Cmp.{signed_Decides}
use Rattle.std.proofs.lemmas.List.Elements.{All-contains}
use Rattle.just_path.specs.declared.host.Miss.{Miss}
use Rattle.just_path.specs.declared.host.Miss.TheVariants as miss
use Rattle.just_host_record.specs.declared.entry.Call.{Call}
use Rattle.just_host_record.specs.declared.entry.Call.TheVariants as call
use Rattle.just_host_record.specs.declared.entry.Entry.{Entry}
use Rattle.just_host_record.specs.declared.entry.Entry.TheVariants as entry
use Rattle.just_host_record.specs.declared.entry.HostFault.TheVariants as fault
use Rattle.just_host_record.specs.declared.entry.Script.{Script}
use Rattle.just_host_record.specs.declared.entry.Status.{Status}
use Rattle.just_host_record.specs.declared.entry.Status.TheVariants as status
use Rattle.just_host_record.specs.declared.signal.Signal.{Signal}
use Rattle.just_sched_history.specs.declared.event.Event.{Event}
use Rattle.just_sched_history.specs.declared.event.Event.TheVariants as event
use Rattle.just_sched_history.specs.declared.event.Reason.{Reason}
use Rattle.just_sched_history.specs.declared.event.Reason.TheVariants as reason
use Rattle.just_sched_history.specs.declared.event.Verdict.{Verdict}
use Rattle.just_sched_history.specs.declared.event.Verdict.TheVariants as verdict
use Rattle.just_sched_history.specs.declared.plan_node.PlanNode.{PlanNode}
use Rattle.just_exec_work.specs.declared.work.Command.{Command}
use Rattle.just_exec_work.specs.declared.work.Step.TheVariants as step
use Rattle.just_exec_work.specs.declared.work.Work.{Work}
use Rattle.just_exec_work.specs.declared.work.Work.TheVariants as work
use Rattle.just_sched_history.specs.Favourable.{is_favourable, IsFavourable}
use Rattle.just_sched_history.specs.Nodes.{work_in, cache_in, paths_in, outputs_in}
use Rattle.just_exec_work.specs.Steps.{commands_of, after}
use Rattle.just_sched_history.specs.Legal.{Run, IsLegal}
use Rattle.just_sched_history.specs.Match.{Matches}
use Rattle.just_sched_history.specs.State.{statuses, reason_of, caught_signal, next_step}
use Rattle.just_sched_history.specs.Verdict.{IsVerdict}
use Rattle.just_sched_history.specs.Causes.{ShowsFailure, ShowsMiss}
use Rattle.just_sched_history.proofs.Laws.{last_status_shown, failed_by_statuses, failing_code, failing_guard, failed_call_shown, missed_call_shown, missed_input_shown, missing_output_shown, refusal_shown, caught_signal_shown}
use Rattle.just_exec.specs.declared.error.Error.{Error}
use Rattle.just_exec.specs.declared.error.Error.TheVariants as error
use Rattle.just_cli_plan.specs.Caused.{IsCaused, ShowsEnd, HasFailed, HasLostChild, ShowsInput, ShowsOutput}
use Rattle.just_cli_plan.specs.Outcome.{name_of, line_of, is_guard, is_told, code_error, script_error, shown_at, lost_error, input_error, miss_error, fault_error, failure_error, last_error, error_in, node_error, IsErrorFor}

-- the signal that was caught first has its event
caught_there : (h : List Event) (g : Signal) → caught_signal h ≡ Some g → Contains h (event.Caught g)
caught_there [] g q = absurd (cc)
caught_there (event.Caught x ∷ h) g q = let same : x ≡ g = cc in (0, omega arith, ap (λ k. event.Caught k) same)
caught_there (e ∷ h) g q = let c = caught_there h g q in (suc c.0, omega (arith, c.1), c.2)

module _ (s : Run) (h : List Event) (es : List Entry) (legal : IsLegal s h) (matches : Matches s h es) where
  abbrev last_command : PlanNode → ℕ → Option Command
  last_command x n = slice_get (commands_of x.work) (length (statuses h n) - 1)

  the_end : (n : ℕ) (x : PlanNode) (t : Status) → slice_get s.nodes n ≡ Some x → next_step s.nodes h n ≡ step.Failed → last_or None (statuses h n) ≡ Some t
      → ShowsEnd s.nodes h es (name_of x) (line_of (last_command x n)) (is_guard (last_command x n)) t
  the_end n x t is fails q =
      let last = last_status_shown s h es n t legal matches q in
      let place : length (statuses h n) - 1 ≡ last.place = omega (arith, last.is_last) in
      record {
        number = n;
        node = x;
        place = last.place;
        child = last.child;
        is_node = is;
        recipe_is = refl;
        line_is = ap (λ k. line_of (slice_get (commands_of x.work) k)) place;
        guard_is = ap (λ k. is_guard (slice_get (commands_of x.work) k)) place;
        started = last.started;
        ended_so = last.ended;
        fails = fails;
      }

  -- the code of a guard, of a line, and of a script
  by_code : (x : PlanNode) (message guard : Bool) (line : Option ℕ) (z : ℤ) → (z ≢ pos 0) → (guard ≡ true → z ≢ pos 1) → ShowsEnd s.nodes h es (name_of x) line guard (status.Code z) → IsCaused s.nodes h (code_error (name_of x) message guard line z) es
  by_code x message true (Some l) z some other k = (some, other refl, k)
  by_code x message true None z some other k = (some, true, k)
  by_code x message false line z some other k = (some, false, k)

  guard_fails : (x : PlanNode) (ss : List Status) (z : ℤ) (o : Option Command) → slice_get (commands_of x.work) (length ss - 1) ≡ o → after x.work ss ≡ step.Failed → last_or None ss ≡ Some (status.Code z) → is_guard o ≡ true → z ≢ pos 1
  guard_fails x ss z None at fails q guards = absurd (let no : ⊥ = cc in no)
  guard_fails x ss z (Some c) at fails q guards = failing_guard x.work ss z c at guards fails q

  by_status : (n : ℕ) (x : PlanNode) (message : Bool) (o : Option Status) → slice_get s.nodes n ≡ Some x → next_step s.nodes h n ≡ step.Failed → last_or None (statuses h n) ≡ o → IsCaused s.nodes h (last_error x message (statuses h n) o) es
  by_status n x message (Some (status.Code z)) is fails q =
      let failed : after x.work (statuses h n) ≡ step.Failed = subst (λ o. after (work_in o) (statuses h n) ≡ step.Failed) is fails in
      by_code x message (is_guard (last_command x n)) (line_of (last_command x n)) z (failing_code x.work (statuses h n) z failed q) (guard_fails x (statuses h n) z (last_command x n) refl failed q) (the_end n x (status.Code z) is fails q)
  by_status n x message (Some (status.Signal z)) is fails q = (is_guard (last_command x n), the_end n x (status.Signal z) is fails q)
  by_status n x message (Some status.Unknown) is fails q = (is_guard (last_command x n), the_end n x status.Unknown is fails q)
  by_status n x message None is fails q = tt

  -- a node that failed for that reason
  abbrev has_failed : (n : ℕ) (x : PlanNode) (r : Reason) → slice_get s.nodes n ≡ Some x → reason_of h n ≡ Some r → HasFailed s.nodes h (name_of x) r
  has_failed n x r is q = record { number = n; node = x; is_node = is; recipe_is = refl; reason_is = q }

  by_miss : (n : ℕ) (x : PlanNode) (c : Call) (m : Miss) → slice_get s.nodes n ≡ Some x → reason_of h n ≡ Some (reason.Place c m) → IsCaused s.nodes h (miss_error x (shown_at h n) c m) es
  by_miss n x call.Temp m is q = (has_failed n x (reason.Place call.Temp m) is q, missed_call_shown s h es n call.Temp m matches q)
  by_miss n x c m is q = (record { number = n; node = x; why = reason.Place c m; is_node = is; reason_is = q; error_is = refl }, missed_call_shown s h es n c m matches q)

  -- a child that couldn't be started or waited for
  by_script : (n : ℕ) (x : PlanNode) (c : Call) (k : Command) (o : Option Script) → HasLostChild s.nodes h (script_error (name_of x) k.spec o (fault.Failed c)) c → ShowsFailure c es → IsCaused s.nodes h (script_error (name_of x) k.spec o (fault.Failed c)) es
  by_script n x c k None lost shown = (lost, shown)
  by_script n x c k (Some script) lost shown = by_kind (script.run) refl
    where
      by_kind : (b : Bool) → script.run ≡ b → IsCaused s.nodes h (script_error (name_of x) k.spec (Some script) (fault.Failed c)) es
      by_kind true is = rw is (rw is at lost, shown)
      by_kind false is = rw is (rw is at lost, shown)

  by_work : (n : ℕ) (x : PlanNode) (c : Call) (w : Work) → HasLostChild s.nodes h (lost_error x (statuses h n) w (fault.Failed c)) c → ShowsFailure c es → IsCaused s.nodes h (lost_error x (statuses h n) w (fault.Failed c)) es
  by_work n x c (work.Lines commands) lost shown = (lost, shown)
  by_work n x c (work.Script k) lost shown = by_script n x c k k.spec.script lost shown
  by_work n x c work.Empty lost shown = (lost, shown)

  by_lost : (n : ℕ) (x : PlanNode) (c : Call) → (c ≡ call.Start) ⊎ (c ≡ call.Wait) → slice_get s.nodes n ≡ Some x → reason_of h n ≡ Some (reason.Fault c) → IsCaused s.nodes h (lost_error x (statuses h n) x.work (fault.Failed c)) es
  by_lost n x c which is q =
      by_work n x c x.work (record { number = n; node = x; is_node = is; reason_is = q; error_is = refl; call_is = which }) (failed_call_shown s h es n c matches q)

  by_fault : (n : ℕ) (x : PlanNode) (c : Call) → slice_get s.nodes n ≡ Some x → reason_of h n ≡ Some (reason.Fault c) → IsCaused s.nodes h (fault_error x (shown_at h n) c) es
  by_fault n x call.Ask is q = (refl, failed_call_shown s h es n call.Ask matches q)
  by_fault n x call.Print is q = (refl, failed_call_shown s h es n call.Print matches q)
  by_fault n x call.Temp is q = (refl, has_failed n x (reason.Fault call.Temp) is q, failed_call_shown s h es n call.Temp matches q)
  by_fault n x call.Save is q = (refl, record { number = n; node = x; is_node = is; path_is = refl; reason_is = q }, failed_call_shown s h es n call.Save matches q)
  by_fault n x call.Start is q = by_lost n x call.Start (inl refl) is q
  by_fault n x call.Wait is q = by_lost n x call.Wait (inr refl) is q
  by_fault n x c is q = (record { number = n; node = x; why = reason.Fault c; is_node = is; reason_is = q; error_is = refl }, failed_call_shown s h es n c matches q)

  -- an input of a cache that is a miss, and an output that isn't there
  missed_at : (n : ℕ) (x : PlanNode) (j : ℕ) (m : Miss) → slice_get s.nodes n ≡ Some x → reason_of h n ≡ Some (reason.Input j m) → Contains es (entry.Missed (slice_index_or (paths_in x.cache) j []) m)
  missed_at n x j m is q = subst (λ o. Contains es (entry.Missed (slice_index_or (paths_in (cache_in o)) j []) m)) is (missed_input_shown s h es n j m matches q)

  input_of : (n : ℕ) (x : PlanNode) (j : ℕ) (m : Miss) → slice_get s.nodes n ≡ Some x → reason_of h n ≡ Some (reason.Input j m) → ShowsInput s.nodes h (slice_index_or (paths_in x.cache) j []) m es
  input_of n x j m is q = record { number = n; node = x; place = j; is_node = is; path_is = refl; reason_is = q; missed = missed_at n x j m is q }

  by_input : (n : ℕ) (x : PlanNode) (j : ℕ) (m : Miss) → slice_get s.nodes n ≡ Some x → reason_of h n ≡ Some (reason.Input j m) → IsCaused s.nodes h (input_error (slice_index_or (paths_in x.cache) j []) m) es
  by_input n x j miss.NotFound is q = input_of n x j miss.NotFound is q
  by_input n x j miss.IsFolder is q = input_of n x j miss.IsFolder is q
  by_input n x j m is q = (record { number = n; node = x; why = reason.Input j m; is_node = is; reason_is = q; error_is = refl }, (slice_index_or (paths_in x.cache) j [], missed_at n x j m is q))

  by_output : (n : ℕ) (x : PlanNode) (j : ℕ) → slice_get s.nodes n ≡ Some x → reason_of h n ≡ Some (reason.Output j) → ShowsOutput s.nodes h (name_of x) (slice_index_or (outputs_in x.cache) j []) es
  by_output n x j is q =
      record {
        number = n;
        node = x;
        place = j;
        is_node = is;
        recipe_is = refl;
        output_is = refl;
        reason_is = q;
        checked = subst (λ o. Contains es (entry.Checked (outputs_in (cache_in o)) (Some j))) is (missing_output_shown s h es n j matches q);
      }

  by_reason : (n : ℕ) (x : PlanNode) (message : Bool) (o : Option Reason) → slice_get s.nodes n ≡ Some x → reason_of h n ≡ o → IsCaused s.nodes h (failure_error x message (shown_at h n) o) es
  by_reason n x message (Some reason.Status) is q = by_status n x message (last_or None (statuses h n)) is (failed_by_statuses s h n legal q) refl
  by_reason n x message (Some reason.NotConfirmed) is q = (has_failed n x reason.NotConfirmed is q, refusal_shown s h es n legal matches q)
  by_reason n x message (Some (reason.Input j m)) is q = by_input n x j m is q
  by_reason n x message (Some (reason.Output j)) is q = by_output n x j is q
  by_reason n x message (Some (reason.Place c m)) is q = by_miss n x c m is q
  by_reason n x message (Some (reason.Fault c)) is q = by_fault n x c is q
  by_reason n x message _ is q = tt

  by_node : (n : ℕ) (message : Bool) (o : Option PlanNode) → slice_get s.nodes n ≡ o → IsCaused s.nodes h (error_in o message h n) es
  by_node n message (Some x) is = by_reason n x message (reason_of h n) is refl
  by_node n message None is = tt

  same_cause : (e f : Error) → e ≡ f → IsCaused s.nodes h f es → IsCaused s.nodes h e es
  same_cause e f same c = subst (λ k. IsCaused s.nodes h k es) (sym same) c

  -- the error of a history's verdict is shown
  pub caused : (messages : List Bool) (v : Verdict) (e : Error) → IsVerdict s h v → IsErrorFor s.nodes messages h v (Some e) → IsCaused s.nodes h e es
  caused messages verdict.Well e judged is = absurd (cc)
  caused messages (verdict.Failed n) e judged (inl is) = same_cause e (node_error s.nodes messages h n) is (by_node n (is_told messages n) (slice_get s.nodes n) refl)
  caused messages (verdict.Failed n) e judged (inr is) = same_cause e error.NoMemory is.1 tt
  caused messages (verdict.Interrupted signal) e judged is =
      let same : e ≡ error.Interrupted signal = cc in
      same_cause e (error.Interrupted signal) same (caught_there h signal judged.1, caught_signal_shown s h es signal matches judged.1)
  caused messages verdict.NoMemory e judged is = let same : e ≡ error.NoMemory = cc in same_cause e error.NoMemory same tt

-- ---- favourable records

-- entries each of which is favourable
abbrev AreFine : List Entry → Type 0
AreFine es = (x : Entry) → Contains es x → is_favourable x ≡ true

no_failure : (c : Call) (es : List Entry) → ShowsFailure c es → AreFine es → ⊥
no_failure c es (inl a) all = true≢false (sym (all (entry.Failed c) a))
no_failure c es (inr b) all = true≢false (sym (all (entry.Strayed b.1 b.2) b.3))

no_miss : (m : Miss) (es : List Entry) → ShowsMiss m es → AreFine es → ⊥
no_miss m es a all = true≢false (sym (all (entry.Missed a.0 m) a.1))

-- a record in which nothing stood against the run shows no cause but want of memory
pub memory_alone : (nodes : List PlanNode) (h : List Event) (e : Error) (es : List Entry) → IsCaused nodes h e es → ((x : Entry) → Contains es x → is_favourable x ≡ true) → e ≡ error.NoMemory
memory_alone nodes h (error.FilesystemIo path (fault.Failed c)) es a all = absurd (no_failure c es a.1 all)
memory_alone nodes h (error.FilesystemIo path (fault.Missed m)) es a all = absurd (no_miss m es a.1 all)
memory_alone nodes h (error.FilesystemIo path fault.NoMemory) es a all = absurd a
memory_alone nodes h (error.ShellIo recipe shell (fault.Failed c)) es a all = absurd (no_failure c es a.1 all)
memory_alone nodes h (error.ShellIo recipe shell (fault.Missed m)) es a all = absurd a
memory_alone nodes h (error.ShellIo recipe shell fault.NoMemory) es a all = absurd a
memory_alone nodes h (error.Script recipe command (fault.Failed c)) es a all = absurd (no_failure c es a.1 all)
memory_alone nodes h (error.Script recipe command (fault.Missed m)) es a all = absurd a
memory_alone nodes h (error.Script recipe command fault.NoMemory) es a all = absurd a
memory_alone nodes h (error.Shebang recipe command argument (fault.Failed c)) es a all = absurd (no_failure c es a.1 all)
memory_alone nodes h (error.Shebang recipe command argument (fault.Missed m)) es a all = absurd a
memory_alone nodes h (error.Shebang recipe command argument fault.NoMemory) es a all = absurd a
memory_alone nodes h (error.TempdirIo recipe (fault.Failed c)) es a all = absurd (no_failure call.Temp es a.2 all)
memory_alone nodes h (error.TempdirIo recipe (fault.Missed m)) es a all = absurd (no_miss m es a.1 all)
memory_alone nodes h (error.TempdirIo recipe fault.NoMemory) es a all = absurd a
memory_alone nodes h (error.CacheInputMissing path) es a all = absurd (true≢false (sym (all (entry.Missed path miss.NotFound) a.missed)))
memory_alone nodes h (error.CacheInputDirectory path) es a all = absurd (true≢false (sym (all (entry.Missed path miss.IsFolder) a.missed)))
memory_alone nodes h (error.CacheOutputMissing recipe output) es a all = absurd (true≢false (sym (all (entry.Checked (outputs_in a.node.cache) (Some a.place)) a.checked)))
memory_alone nodes h (error.CacheEntryWrite path (fault.Failed c)) es a all = absurd (no_failure call.Save es a.2 all)
memory_alone nodes h (error.CacheEntryWrite path (fault.Missed m)) es a all = absurd a
memory_alone nodes h (error.CacheEntryWrite path fault.NoMemory) es a all = absurd a
memory_alone nodes h (error.NotConfirmed recipe) es a all = absurd (true≢false (sym (all (entry.Asked a.1.0 a.1.1) a.1.2) ∙ a.1.3))
memory_alone nodes h (error.GetConfirmation (fault.Failed c)) es a all = absurd (no_failure call.Ask es a.1 all)
memory_alone nodes h (error.GetConfirmation (fault.Missed m)) es a all = absurd a
memory_alone nodes h (error.GetConfirmation fault.NoMemory) es a all = absurd a
memory_alone nodes h (error.StdoutIo (fault.Failed c)) es a all = absurd (no_failure call.Print es a.1 all)
memory_alone nodes h (error.StdoutIo (fault.Missed m)) es a all = absurd a
memory_alone nodes h (error.StdoutIo fault.NoMemory) es a all = absurd a
memory_alone nodes h (error.Interrupted signal) es a all = absurd (true≢false (sym (all (entry.Signalled signal) a.1)))
memory_alone nodes h (error.Code recipe line code message) es c all = absurd (c.0 ((signed_Decides code (pos 0)).0 (all (entry.Ended c.2.child (status.Code code)) c.2.ended_so)))
memory_alone nodes h (error.GuardCode recipe line code) es c all = absurd (c.0 ((signed_Decides code (pos 0)).0 (all (entry.Ended c.2.child (status.Code code)) c.2.ended_so)))
memory_alone nodes h (error.Signal recipe line signal) es c all = absurd (true≢false (sym (all (entry.Ended c.1.child (status.Signal signal)) c.1.ended_so)))
memory_alone nodes h (error.Unknown recipe line) es c all = absurd (true≢false (sym (all (entry.Ended c.1.child status.Unknown) c.1.ended_so)))
memory_alone nodes h error.NoMemory es c all = refl
memory_alone nodes h _ es c all = absurd c

-- the same, of a favourable record
pub memory_left : (nodes : List PlanNode) (h : List Event) (e : Error) (es : List Entry) → IsCaused nodes h e es → IsFavourable es → e ≡ error.NoMemory
memory_left nodes h e es c good = memory_alone nodes h e es c (λ x within. All-contains (λ y. is_favourable y ≡ true) es x good within)
