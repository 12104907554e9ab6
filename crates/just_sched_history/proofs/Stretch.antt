-- The entries of a record that a history matches.
use Rattle.std.proofs.Common.{◌≡◌, ℕ, ◌+◌, ◌<◌, length, slice_index_or, Contains, inl, inr, ◌||◌, Bool, true, false, cond, List, [], ◌∷◌, ◌++◌, Option, Some, None, MatchOption, refl, ap, ap₂, sym, ◌∙◌, subst, codes, append_assoc, append-nil}
use Rattle.std.specs.List.{list_any, list_all}
use Rattle.std.proofs.lemmas.List.Sums.{sum_by-append}
use Rattle.just_path.specs.declared.host.Miss.{Miss}
use Rattle.just_host_record.specs.declared.entry.Call.{Call}
use Rattle.just_host_record.specs.declared.entry.Call.TheVariants as call
use Rattle.just_host_record.specs.declared.entry.Entry.{Entry}
use Rattle.just_host_record.specs.declared.entry.Entry.TheVariants as entry
use Rattle.just_host_record.specs.declared.entry.Look.{Look}
use Rattle.just_host_record.specs.Record.{children, is_failed, is_missed, is_started as is_child, script_folder}
use Rattle.just_sched_history.specs.declared.event.Event.{Event}
use Rattle.just_sched_history.specs.declared.event.Event.TheVariants as event
use Rattle.just_sched_history.specs.declared.event.Outcome.TheVariants as outcome
use Rattle.just_sched_history.specs.declared.event.Reason.{Reason}
use Rattle.just_sched_history.specs.declared.event.Reason.TheVariants as reason
use Rattle.just_exec_work.specs.declared.work.Command.{Command}
use Rattle.just_sched_history.specs.Nodes.{cache_at, prompt_at, banner_at, command_at}
use Rattle.just_sched_history.specs.Legal.{Run, Due, Asked, Looked, Begun, Started, Ended, Saved, all_starts, is_start}
use Rattle.just_sched_history.specs.declared.cache_plan.CachePlan.{CachePlan}
use Rattle.just_sched_history.specs.Cached.{entry_of, seen_at}
use Rattle.just_sched_history.specs.Match.{printed_entries, is_yes, started_entries, summed_entries, looked_entries, saved_entries, begun_entries, OfCache, OfSums, OfBegun, SumsFirst, BehindEcho, DueEntries, FailureStandsFor, FaultStandsFor, MissStandsFor, StandsFor, MatchesFrom, Matches}
use Rattle.just_sched_history.proofs.Order.{none_zero}
use Rattle.just_sched_history.proofs.Tests.{all_both, both, count_more, count_none, count_now}

-- what each event and its entries keep holds behind more events
matches_from : (s : Run) (P : List Event → List Entry → Type 0) → ((h : List Event) (e : Event) (es fs : List Entry) → P h es → StandsFor s h e fs → P (h ++ e ∷ []) (es ++ fs)) → (before h : List Event) (es fs : List Entry) → P before es → MatchesFrom s before h fs → P (before ++ h) (es ++ fs)
matches_from s P step before [] es fs p m =
    subst (λ k. P k (es ++ fs)) (sym (append-nil before)) (subst (λ k. P before k) (sym (append-nil es) ∙ ap (λ k. es ++ k) (sym m)) p)
matches_from s P step before (x ∷ h) es fs p m =
    subst (λ k. P k (es ++ fs)) (append_assoc before (x ∷ []) h)
    (subst (λ k. P ((before ++ x ∷ []) ++ h) k) (append_assoc es m.0 m.1 ∙ ap (λ k. es ++ k) (sym m.2))
    (matches_from s P step (before ++ x ∷ []) h (es ++ m.0) m.1 (step before x es m.0 p m.3) m.4))

-- what holds of no events and no entries, and goes on by each event and what it stands for, holds of each match
pub matches_holds : (s : Run) (P : List Event → List Entry → Type 0) → P [] [] → ((h : List Event) (e : Event) (es fs : List Entry) → P h es → StandsFor s h e fs → P (h ++ e ∷ []) (es ++ fs)) → (h : List Event) (es : List Entry) → Matches s h es → P h es
matches_holds s P none step h es m = matches_from s P step [] h [] es none m

-- an entry of a call that went well and started no child
abbrev pub is_quiet : Entry → Bool
is_quiet (entry.Printed to text) = true
is_quiet (entry.Summed path sum) = true
is_quiet (entry.Checked outputs missing) = true
is_quiet _ = false

-- what is printed is quiet
printed_is : (text : List ℕ) → list_all is_quiet (printed_entries text) ≡ true
printed_is [] = refl
printed_is (b ∷ bs) = refl

-- nothing is no more than nothing and nothing
nothing_behind : {A : Type 0} (fs rest : List A) → [] ≡ fs ++ rest → rest ≡ []
nothing_behind [] rest e = sym e
nothing_behind (f ∷ fs) rest e = absurd (cc)

-- a proper first part of a list that ends in x is a first part of what stands before x
front : {A : Type 0} (xs : List A) (x : A) (fs rest : List A) → xs ++ x ∷ [] ≡ fs ++ rest → (rest ≡ [] → ⊥) → (more : List A) × (xs ≡ fs ++ more)
front xs x [] rest e some = (xs, refl)
front [] x (f ∷ fs) rest e some = absurd (some (nothing_behind fs rest (cc)))
front (y ∷ xs) x (f ∷ fs) rest e some =
    let r = front xs x fs rest (cc) some in
    let same : y ≡ f = cc in
    (r.0, ap₂ (λ a b. a ∷ b) same r.1)

-- what each item passes, each of a first part does
all_front : {A : Type 0} (p : A → Bool) (fs more : List A) → list_all p (fs ++ more) ≡ true → list_all p fs ≡ true
all_front p [] more a = refl
all_front p (f ∷ fs) more a = let c = both (p f) (list_all p (fs ++ more)) a in all_both (p f) (list_all p fs) c.0 (all_front p fs more c.1)

-- sums are quiet
pub summed_is : (paths sums : List (List ℕ)) → list_all is_quiet (summed_entries paths sums) ≡ true
summed_is [] sums = refl
summed_is (p ∷ paths) [] = refl
summed_is (p ∷ paths) (x ∷ sums) = summed_is paths sums

-- a first part of quiet entries is quiet
front_quiet : (xs : List Entry) (x : Entry) (fs rest : List Entry) → list_all is_quiet xs ≡ true → xs ++ x ∷ [] ≡ fs ++ rest → (rest ≡ [] → ⊥) → list_all is_quiet fs ≡ true
front_quiet xs x fs rest a e some = let r = front xs x fs rest e some in all_front is_quiet fs r.0 (ap (λ k. list_all is_quiet k) (sym r.1) ∙ a)

-- what holds of a value that must be there holds of one
pub option_there : {A : Type 0} (F : A → Type 0) (o : Option A) → MatchOption o ⊥ F → (x : A) × F x
option_there F None m = absurd m
option_there F (Some x) m = (x, m)

-- what holds of a cache and of the sums of its look holds of one and some
pub sums_there : (s : Run) (h : List Event) (n : ℕ) (fact : CachePlan → List (List ℕ) → Type 0) → OfSums s h n fact → (c : CachePlan) × (sums : List (List ℕ)) × fact c sums
sums_there s h n fact b =
    let c = option_there (λ c. MatchOption (seen_at h n) ⊥ (λ seen. fact c seen.0)) (cache_at s.nodes n) b in
    let x = option_there (λ (seen : List (List ℕ) × Look). fact c.0 seen.0) (seen_at h n) c.1 in
    (c.0, x.0.0, x.1)

-- what holds of what a node's cache makes as the body begins holds of some quiet entries
pub begun_there : (s : Run) (h : List Event) (n : ℕ) (fact : List Entry → Type 0) → OfBegun s h n fact → (made : List Entry) × (list_all is_quiet made ≡ true) × fact made
begun_there s h n fact b = by_cache (cache_at s.nodes n) b
  where
    by_cache : (o : Option CachePlan) → MatchOption o (fact []) (λ c. MatchOption (seen_at h n) ⊥ (λ seen. fact (begun_entries c seen.0))) → (made : List Entry) × (list_all is_quiet made ≡ true) × fact made
    by_cache None p = ([], refl, p)
    by_cache (Some c) p =
        let x = option_there (λ (seen : List (List ℕ) × Look). fact (begun_entries c seen.0)) (seen_at h n) p in
        (begun_entries c x.0.0, refl, x.1)

-- what each item of two lists passes, each passes of the one behind the other
all_append : {A : Type 0} (p : A → Bool) (xs ys : List A) → list_all p xs ≡ true → list_all p ys ≡ true → list_all p (xs ++ ys) ≡ true
all_append p [] ys a b = b
all_append p (x ∷ xs) ys a b = let c = both (p x) (list_all p xs) a in all_both (p x) (list_all p (xs ++ ys)) c.0 (all_append p xs ys c.1 b)

-- a test that no quiet entry passes, quiet entries fail
quiet_passes_no : (p : Entry → Bool) → ((x : Entry) → is_quiet x ≡ true → p x ≡ false) → (fs : List Entry) → list_all is_quiet fs ≡ true → list_any p fs ≡ false
quiet_passes_no p plain [] a = refl
quiet_passes_no p plain (f ∷ fs) a =
    let c = both (is_quiet f) (list_all is_quiet fs) a in
    ap₂ (λ x y. x || y) (plain f c.0) (quiet_passes_no p plain fs c.1)

-- a quiet entry is no child
quiet_no_child : (x : Entry) → is_quiet x ≡ true → is_child x ≡ false
quiet_no_child (entry.Started c spec) a = absurd (cc)
quiet_no_child _ a = refl

-- quiet entries, and behind them one that passes the test
pub record EndsIn (p : Entry → Bool) (fs : List Entry) : Type 0 where
  pub before : List Entry
  pub last : Entry
  pub is : fs ≡ before ++ last ∷ []
  pub printed : list_all is_quiet before ≡ true
  pub passes : p last ≡ true

-- one entry that passes ends in itself
broke_alone : (p : Entry → Bool) (fs : List Entry) (x : Entry) → p x ≡ true → fs ≡ x ∷ [] → EndsIn p fs
broke_alone p fs x a e = record { before = []; last = x; is = e; printed = refl; passes = a }

-- what stands behind an echo ends in what was made
broke_behind : (p : Entry → Bool) (s : Run) (h : List Event) (n : ℕ) (made : Command → Entry) (fs : List Entry) → ((c : Command) → p (made c) ≡ true) → BehindEcho s h n (λ c. made c ∷ []) fs → EndsIn p fs
broke_behind p s h n made fs a b =
    let c = option_there (λ c. fs ≡ printed_entries c.echo ++ made c ∷ []) (command_at s.nodes n b.0) b.2 in
    record { before = printed_entries c.0.echo; last = made c.0; is = c.1; printed = printed_is c.0.echo; passes = a c.0 }

-- what stands behind sums ends in what was made
broke_sums : (p : Entry → Bool) (s : Run) (n : ℕ) (many : CachePlan → ℕ → Type 0) (made : CachePlan → List (List ℕ) → Entry) (fs : List Entry) → ((c : CachePlan) (sums : List (List ℕ)) → p (made c sums) ≡ true)
    → OfCache s n (λ c. SumsFirst c (many c) (λ sums. made c sums ∷ []) fs) → EndsIn p fs
broke_sums p s n many made fs a b =
    let c = option_there (λ c. SumsFirst c (many c) (λ sums. made c sums ∷ []) fs) (cache_at s.nodes n) b in
    record { before = summed_entries c.0.paths c.1.0; last = made c.0 c.1.0; is = c.1.2; printed = summed_is c.0.paths c.1.0; passes = a c.0 c.1.0 }

-- what stands behind a check ends in what was made
broke_checked : (p : Entry → Bool) (fs : List Entry) (outputs : List (List ℕ)) (x : Entry) → p x ≡ true → fs ≡ entry.Checked outputs None ∷ x ∷ [] → EndsIn p fs
broke_checked p fs outputs x a e = record { before = entry.Checked outputs None ∷ []; last = x; is = e; printed = refl; passes = a }

-- a call that was missed stands for its miss, behind quiet entries
pub miss_broke : (s : Run) (h : List Event) (n : ℕ) (c : Call) (m : Miss) (fs : List Entry) → MissStandsFor s h n c m fs → EndsIn is_missed fs
miss_broke s h n call.Ask m fs b = broke_alone is_missed fs (entry.Missed (codes "-") m) refl b
miss_broke s h n call.Temp m fs b = broke_behind is_missed s h n (λ c. entry.Missed (script_folder c.spec) m) fs (λ c. refl) b
miss_broke s h n call.Probe m fs b = broke_sums is_missed s n (λ c many. many ≡ length c.paths) (λ c sums. entry.Missed (entry_of c sums) m) fs (λ c sums. refl) b
miss_broke s h n call.Check m fs b =
    let c = option_there (λ c. (path : List ℕ) × Contains c.outputs path × (fs ≡ entry.Missed path m ∷ [])) (cache_at s.nodes n) b in
    broke_alone is_missed fs (entry.Missed c.1.0 m) refl c.1.2
miss_broke s h n call.Save m fs b =
    let x = sums_there s h n (λ c sums. fs ≡ entry.Checked c.outputs None ∷ entry.Missed (entry_of c sums) m ∷ []) b in
    broke_checked is_missed fs x.0.outputs (entry.Missed (entry_of x.0 x.1) m) refl x.2
miss_broke s h n _ m fs b = absurd b

-- a call that failed stands for its failure, behind quiet entries
pub fault_broke : (s : Run) (h : List Event) (n : ℕ) (c : Call) (fs : List Entry) → FaultStandsFor s h n c fs → EndsIn is_failed fs
fault_broke s h n call.Ask fs b = broke_alone is_failed fs (entry.Failed call.Ask) refl b
fault_broke s h n call.Print fs (inl b) =
    let x = begun_there s h n (λ made. fs ≡ made ++ entry.Failed call.Print ∷ []) b.2 in
    record { before = x.0; last = entry.Failed call.Print; is = x.2; printed = x.1; passes = refl }
fault_broke s h n call.Print fs (inr b) = broke_alone is_failed fs (entry.Failed call.Print) refl b.3
fault_broke s h n call.Temp fs b = broke_behind is_failed s h n (λ c. entry.Failed call.Temp) fs (λ c. refl) b
fault_broke s h n call.Start fs b = broke_behind is_failed s h n (λ c. entry.Failed call.Start) fs (λ c. refl) b
fault_broke s h n call.Wait fs (inl b) = broke_alone is_failed fs (entry.Failed call.Wait) refl b
fault_broke s h n call.Wait fs (inr b) = broke_alone is_failed fs (entry.Strayed b.1 b.2) refl b.5
fault_broke s h n call.Sum fs b = broke_sums is_failed s n (λ c many. many < length c.paths) (λ c sums. entry.Failed call.Sum) fs (λ c sums. refl) b
fault_broke s h n call.Probe fs b = broke_sums is_failed s n (λ c many. many ≡ length c.paths) (λ c sums. entry.Failed call.Probe) fs (λ c sums. refl) b
fault_broke s h n call.Check fs b = broke_alone is_failed fs (entry.Failed call.Check) refl b
fault_broke s h n call.Save fs b =
    let c = option_there (λ c. fs ≡ entry.Checked c.outputs None ∷ entry.Failed call.Save ∷ []) (cache_at s.nodes n) b in
    broke_checked is_failed fs c.0.outputs (entry.Failed call.Save) refl c.1
fault_broke s h n _ fs b = absurd b

-- want of memory stands for quiet entries alone
pub memory_quiet : (s : Run) (h : List Event) (n : ℕ) (d : Due) (fs rest all : List Entry) → DueEntries s h n d all → all ≡ fs ++ rest → (rest ≡ [] → ⊥) → list_all is_quiet fs ≡ true
memory_quiet s h n Asked fs rest all due e some =
    let p = option_there (λ p. (answer : List ℕ) × (all ≡ entry.Asked p answer ∷ [])) (prompt_at s.nodes n) due in
    front_quiet [] (entry.Asked p.0 p.1.0) fs rest refl (sym p.1.1 ∙ e) some
memory_quiet s h n Looked fs rest all due e some =
    let c = option_there (λ c. (sums : List (List ℕ)) × (seen : Look) × (length sums ≡ length c.paths) × (all ≡ looked_entries c sums seen)) (cache_at s.nodes n) due in
    front_quiet (summed_entries c.0.paths c.1.0) (entry.Probed (entry_of c.0 c.1.0) c.0.outputs c.1.1) fs rest (summed_is c.0.paths c.1.0) (sym c.1.3 ∙ e) some
memory_quiet s h n Begun fs rest all due e some =
    let banner = printed_entries (banner_at s.nodes n) in
    let x = begun_there s h n (λ made. all ≡ made ++ banner) due in
    all_front is_quiet fs rest (ap (λ k. list_all is_quiet k) (sym e ∙ x.2) ∙ all_append is_quiet x.0 banner x.1 (printed_is (banner_at s.nodes n)))
memory_quiet s h n (Started i) fs rest all due e some =
    let c = option_there (λ c. (child : ℕ) × (all ≡ started_entries child c)) (command_at s.nodes n i) due in
    front_quiet (printed_entries c.0.echo) (entry.Started c.1.0 c.0.spec) fs rest (printed_is c.0.echo) (sym c.1.1 ∙ e) some
memory_quiet s h n Ended fs rest all due e some = absurd due
memory_quiet s h n Saved fs rest all due e some =
    let x = sums_there s h n (λ c sums. all ≡ saved_entries c sums) due in
    front_quiet (entry.Checked x.0.outputs None ∷ []) (entry.Saved (entry_of x.0 x.1)) fs rest refl (sym x.2 ∙ e) some

-- entries that end in no child hold none
broke_children : (p : Entry → Bool) (fs : List Entry) → ((x : Entry) → p x ≡ true → is_child x ≡ false) → EndsIn p fs → children fs ≡ 0
broke_children p fs plain b =
    ap children b.is ∙ count_none is_child b.before b.last (plain b.last b.passes) ∙ none_zero is_child b.before (quiet_passes_no is_child quiet_no_child b.before b.printed)

-- a miss is no child
missed_no_child : (x : Entry) → is_missed x ≡ true → is_child x ≡ false
missed_no_child (entry.Started c spec) a = absurd (cc)
missed_no_child _ a = refl

-- a failure is no child
failed_no_child : (x : Entry) → is_failed x ≡ true → is_child x ≡ false
failed_no_child (entry.Started c spec) a = absurd (cc)
failed_no_child _ a = refl

-- the entries of a failure hold no child
failure_children : (s : Run) (h : List Event) (n : ℕ) (r : Reason) (fs : List Entry) → FailureStandsFor s h n r fs → children fs ≡ 0
failure_children s h n reason.Status fs b = ap children b
failure_children s h n reason.NotConfirmed fs b = ap children b
failure_children s h n (reason.Input j m) fs b = broke_children is_missed fs missed_no_child (broke_sums is_missed s n (λ c many. many ≡ j) (λ c sums. entry.Missed (slice_index_or c.paths j []) m) fs (λ c sums. refl) b)
failure_children s h n (reason.Output j) fs b = let c = option_there (λ c. fs ≡ entry.Checked c.outputs (Some j) ∷ []) (cache_at s.nodes n) b in ap children c.1
failure_children s h n (reason.Place c m) fs b = broke_children is_missed fs missed_no_child (miss_broke s h n c m fs b)
failure_children s h n (reason.Fault c) fs b = broke_children is_failed fs failed_no_child (fault_broke s h n c fs b)
failure_children s h n reason.Interrupted fs b = ap children b
failure_children s h n reason.NoMemory fs b =
    none_zero is_child fs (quiet_passes_no is_child quiet_no_child fs (memory_quiet s h n b.0 fs b.1 b.2 b.4 b.5 b.6))

-- printed texts hold no child
printed_children : (text : List ℕ) → children (printed_entries text) ≡ 0
printed_children [] = refl
printed_children (b ∷ bs) = refl

-- an event starts a child where an entry that it stands for does
pub stands_children : (s : Run) (h : List Event) (e : Event) (fs : List Entry) → StandsFor s h e fs → children fs ≡ cond (is_start e) 1 0
stands_children s h (event.Asked n y) fs b =
    let p = option_there (λ p. (answer : List ℕ) × (is_yes answer ≡ y) × (fs ≡ entry.Asked p answer ∷ [])) (prompt_at s.nodes n) b in
    ap children p.1.2
stands_children s h (event.Took n) fs b = ap children b
stands_children s h (event.Looked n sums seen) fs b =
    let c = option_there (λ c. fs ≡ looked_entries c sums seen) (cache_at s.nodes n) b in
    ap children c.1 ∙ count_none is_child (summed_entries c.0.paths sums) (entry.Probed (entry_of c.0 sums) c.0.outputs seen) refl
    ∙ none_zero is_child (summed_entries c.0.paths sums) (quiet_passes_no is_child quiet_no_child (summed_entries c.0.paths sums) (summed_is c.0.paths sums))
stands_children s h (event.Skipped n) fs b = ap children b
stands_children s h (event.Begun n) fs b =
    let banner = printed_entries (banner_at s.nodes n) in
    let x = begun_there s h n (λ made. fs ≡ made ++ banner) b in
    ap children x.2 ∙ none_zero is_child (x.0 ++ banner) (quiet_passes_no is_child quiet_no_child (x.0 ++ banner) (all_append is_quiet x.0 banner x.1 (printed_is (banner_at s.nodes n))))
stands_children s h (event.Started n i child) fs b =
    let c = option_there (λ c. fs ≡ started_entries child c) (command_at s.nodes n i) b in
    ap children c.1 ∙ count_now is_child (printed_entries c.0.echo) (entry.Started child c.0.spec) refl ∙ ap (λ k. k + 1) (printed_children c.0.echo)
stands_children s h (event.Ended n i child t) fs b = ap children b
stands_children s h (event.Saved n) fs b = let x = sums_there s h n (λ c sums. fs ≡ saved_entries c sums) b in ap children x.2
stands_children s h (event.Done n outcome.Well) fs b = ap children b
stands_children s h (event.Done n (outcome.Failed r)) fs b = failure_children s h n r fs b
stands_children s h (event.Gave n) fs b = ap children b
stands_children s h (event.Caught g) fs b = ap children b

-- a matched record has as many children as the history starts
pub matched_children : (s : Run) (h : List Event) (es : List Entry) → Matches s h es → children es ≡ all_starts h
matched_children s h es m =
    matches_holds s (λ k fs. children fs ≡ all_starts k) refl
    (λ k e fs gs old b. sum_by-append (λ x. cond (is_child x) 1 0) fs gs ∙ ap₂ (λ x y. x + y) old (stands_children s k e gs b) ∙ sym (count_more is_start k e))
    h es m

-- the number of the next child, counted over the record so far
pub fresh_start : (s : Run) (h : List Event) (es gained : List Entry) → Matches s h gained → children (es ++ gained) ≡ children es + all_starts h
fresh_start s h es gained m = sum_by-append (λ x. cond (is_child x) 1 0) es gained ∙ ap (λ k. children es + k) (matched_children s h gained m)

-- a matched record with no start is that of a history with none
pub started : (s : Run) (h : List Event) (es : List Entry) → Matches s h es → list_any is_child es ≡ false → all_starts h ≡ 0
started s h es m a = sym (matched_children s h es m) ∙ none_zero is_child es a
