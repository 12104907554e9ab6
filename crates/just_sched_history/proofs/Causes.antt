-- What a record shows of a body that failed.
use Rattle.std.proofs.Common.{◌≡◌, ℕ, ◌-◌, ◌<◌, ◌==◌, inl, inr, ◌&&◌, not, codes, Bool, true, false, if◌then◌else◌, List, [], ◌∷◌, ◌++◌, length, slice_get, Contains, Option, Some, None, ℤ, pos, true≢false, refl, ap, sym, ◌∙◌, subst, append_assoc, append-nil, length-append, arith, eqb-true}
use Rattle.std.specs.List.{last_or, list_any}
use Rattle.std.specs.Ordering.{int_eq}
use Rattle.std.proofs.lemmas.List.Elements.{Contains-append_left, Contains-append_right}
use Rattle.just_path.specs.declared.host.Miss.{Miss}
use Rattle.just_host_record.specs.declared.entry.Call.{Call}
use Rattle.just_host_record.specs.declared.entry.Call.TheVariants as call
use Rattle.just_host_record.specs.declared.entry.Entry.{Entry}
use Rattle.just_host_record.specs.declared.entry.Entry.TheVariants as entry
use Rattle.just_host_record.specs.declared.entry.Status.{Status}
use Rattle.just_host_record.specs.declared.entry.Status.TheVariants as status
use Rattle.just_host_record.specs.declared.signal.Signal.{Signal}
use Rattle.just_host_record.specs.Record.{script_folder}
use Rattle.just_sched_history.specs.declared.event.Event.{Event}
use Rattle.just_sched_history.specs.declared.event.Event.TheVariants as event
use Rattle.just_sched_history.specs.declared.event.Outcome.TheVariants as outcome
use Rattle.just_sched_history.specs.declared.event.Reason.{Reason}
use Rattle.just_sched_history.specs.declared.event.Reason.TheVariants as reason
use Rattle.just_exec_work.specs.declared.work.Command.{Command}
use Rattle.just_exec_work.specs.declared.work.Step.{Step}
use Rattle.just_exec_work.specs.declared.work.Step.TheVariants as step
use Rattle.just_exec_work.specs.declared.work.Work.{Work}
use Rattle.just_sched_history.specs.Causes.{ShowsFailure, ShowsMiss, ShowsRefusal, EndedLast}
use Rattle.just_sched_history.specs.declared.cache_plan.CachePlan.{CachePlan}
use Rattle.just_sched_history.specs.Cached.{entry_of}
use Rattle.just_sched_history.specs.Nodes.{cache_at, prompt_at, command_at}
use Rattle.just_exec_work.specs.Steps.{commands_of, ends_body, goes_on, is_code, start_or_well, step_behind, after}
use Rattle.just_sched_history.specs.State.{answers, status_of, reason_in, signal_in, is_done, statuses, last_start, reason_of, caught_signal, next_step}
use Rattle.just_sched_history.specs.Legal.{Run, Ended, IsDue, May, LegalFrom, IsLegal}
use Rattle.just_sched_history.specs.Match.{StandsFor, FaultStandsFor, MissStandsFor, FailureStandsFor, OfCache, SumsFirst, BehindEcho, MatchesFrom, Matches, printed_entries, summed_entries, is_yes}
use Rattle.just_sched_history.proofs.AfterLaws.{after_judged}
use Rattle.just_sched_history.proofs.Counts.{running_place}
use Rattle.just_sched_history.proofs.Due.{inside}
use Rattle.just_sched_history.proofs.Histories.{legal_holds, legal_more}
use Rattle.just_sched_history.proofs.OneMore.{last_start_stays, last_started, reason_kept, reason_new, signal_kept, signal_new, statuses_ended, statuses_stay}
use Rattle.just_sched_history.proofs.Others.{next_step_stays, starts_of, statuses_of}
use Rattle.just_sched_history.proofs.Reasons.{reason_done, reason_due, reason_since}
use Rattle.just_sched_history.proofs.Stretch.{begun_there, matches_holds, option_there, sums_there}
use Rattle.just_sched_history.proofs.Tests.{any_kept, any_none, both, last_push, neither, not_true}

-- ---- a history with its record

-- what each event keeps holds behind more events
kept_from : (s : Run) (P : List Event → List Entry → Type 0) → ((h : List Event) (e : Event) (es fs : List Entry) → IsLegal s h → P h es → May s h e → StandsFor s h e fs → P (h ++ e ∷ []) (es ++ fs)) → (before h : List Event) (had es : List Entry) → IsLegal s before → P before had → LegalFrom s before h → MatchesFrom s before h es → P (before ++ h) (had ++ es)
kept_from s P more before [] had es legal p l m =
    subst (λ k. P k (had ++ es)) (sym (append-nil before)) (subst (λ k. P before k) (sym (ap (λ x. had ++ x) m ∙ append-nil had)) p)
kept_from s P more before (x ∷ h) had es legal p l m =
    subst (λ k. P k (had ++ es)) (append_assoc before (x ∷ []) h)
    (subst (λ k. P ((before ++ x ∷ []) ++ h) k) (append_assoc had m.0 m.1 ∙ ap (λ k. had ++ k) (sym m.2))
    (kept_from s P more (before ++ x ∷ []) h (had ++ m.0) m.1 (legal_more s before x legal l.0) (more before x had m.0 legal p l.0 m.3) l.1 m.4))

-- what holds of nothing, and goes on by each event that may come with the entries that it stands for, holds of each legal
-- history and the record that it matches
pub kept_holds : (s : Run) (P : List Event → List Entry → Type 0) → P [] [] → ((h : List Event) (e : Event) (es fs : List Entry) → IsLegal s h → P h es → May s h e → StandsFor s h e fs → P (h ++ e ∷ []) (es ++ fs)) → (h : List Event) (es : List Entry) → IsLegal s h → Matches s h es → P h es
kept_holds s P none more h es l m = kept_from s P more [] h [] es tt none l m

-- a list begins with its first item
here : {A : Type 0} (x : A) → Contains (x ∷ []) x
here x = (0, omega arith, refl)

-- what a list contains, that is one item, or ends with it
alone : {A : Type 0} (xs : List A) (x : A) → xs ≡ x ∷ [] → Contains xs x
alone xs x e = subst (λ k. Contains k x) (sym e) (here x)

-- a list that ends with an item contains it
pushed : {A : Type 0} (xs : List A) (x : A) → Contains (xs ++ x ∷ []) x
pushed xs x = Contains-append_right xs (x ∷ []) x (here x)

-- ---- the command that ended last

-- the pair that is there, or another
abbrev pair_in : ℕ × ℕ → Option (ℕ × ℕ) → ℕ × ℕ
pair_in other (Some x) = x
pair_in other None = other

-- a start that is the last event has its event
start_at : (n i c j d : ℕ) (h : List Event) → last_start (h ++ event.Started n j d ∷ []) n ≡ Some (i, c) → Contains (h ++ event.Started n j d ∷ []) (event.Started n i c)
start_at n i c j d h q =
    subst (λ (x : ℕ × ℕ). Contains (h ++ event.Started n x.0 x.1 ∷ []) (event.Started n i c)) (ap (λ o. pair_in (i, c) o) (sym q ∙ last_started h n j d)) (pushed h (event.Started n i c))

-- a start of this or another node, by a test
start_by : (n i c : ℕ) (h : List Event) (m j d : ℕ) (b : Bool) → (m == n) ≡ b → (last_start h n ≡ Some (i, c) → Contains h (event.Started n i c)) → last_start (h ++ event.Started m j d ∷ []) n ≡ Some (i, c) → Contains (h ++ event.Started m j d ∷ []) (event.Started n i c)
start_by n i c h m j d true same old q =
    let is : m ≡ n = eqb-true m n same in
    subst (λ k. Contains (h ++ event.Started k j d ∷ []) (event.Started n i c)) (sym is) (start_at n i c j d h (subst (λ k. last_start (h ++ event.Started k j d ∷ []) n ≡ Some (i, c)) is q))
start_by n i c h m j d false same old q =
    Contains-append_left h (event.Started m j d ∷ []) (event.Started n i c) (old (sym (last_start_stays h (event.Started m j d) n (starts_of n (event.Started m j d) same)) ∙ q))

-- the last start keeps its event behind one event more
start_more : (n i c : ℕ) (h : List Event) (e : Event) → (last_start h n ≡ Some (i, c) → Contains h (event.Started n i c)) → last_start (h ++ e ∷ []) n ≡ Some (i, c) → Contains (h ++ e ∷ []) (event.Started n i c)
start_more n i c h (event.Started m j d) old q = start_by n i c h m j d (m == n) refl old q
start_more n i c h e old q = Contains-append_left h (e ∷ []) (event.Started n i c) (old (sym (last_start_stays h e n refl) ∙ q))

-- the command that a node started last has its event
pub start_there : (s : Run) (h : List Event) (n i c : ℕ) → IsLegal s h → last_start h n ≡ Some (i, c) → Contains h (event.Started n i c)
start_there s h n i c l =
    legal_holds s (λ k. last_start k n ≡ Some (i, c) → Contains k (event.Started n i c)) (λ q. absurd (cc)) (λ k e legal old m. start_more n i c k e old) h l

-- an event without a status keeps the command that ended last
end_kept : (h : List Event) (e : Event) (es fs : List Entry) (n : ℕ) (t : Status) → status_of n e ≡ None → (last_or None (statuses h n) ≡ Some t → EndedLast h es n t) → last_or None (statuses (h ++ e ∷ []) n) ≡ Some t → EndedLast (h ++ e ∷ []) (es ++ fs) n t
end_kept h e es fs n t quiet old q =
    let same = statuses_stay h e n quiet in
    let was = old (sym (ap (λ xs. last_or None xs) same) ∙ q) in
    record {
      place = was.place;
      child = was.child;
      is_last = was.is_last ∙ sym (ap length same);
      started = Contains-append_left h (e ∷ []) (event.Started n was.place was.child) was.started;
      ended = Contains-append_left es fs (entry.Ended was.child t) was.ended;
    }

-- a command that just ended is the one that ended last
end_now : (s : Run) (h : List Event) (n i c : ℕ) (u : Status) (es fs : List Entry) (t : Status) → IsLegal s h → May s h (event.Ended n i c u) → StandsFor s h (event.Ended n i c u) fs → last_or None (statuses (h ++ event.Ended n i c u ∷ []) n) ≡ Some t → EndedLast (h ++ event.Ended n i c u ∷ []) (es ++ fs) n t
end_now s h n i c u es fs t legal may stands q =
    let e = event.Ended n i c u in
    let now = statuses_ended h n i c u in
    let last : Some u ≡ Some t = sym (last_push None (statuses h n) u) ∙ sym (ap (λ xs. last_or None xs) now) ∙ q in
    let same : u ≡ t = cc in
    record {
      place = i;
      child = c;
      is_last = omega (arith, (running_place s h n i c legal may.0.1 may.1).0, ap length now, length-append (statuses h n) (u ∷ []));
      started = Contains-append_left h (e ∷ []) (event.Started n i c) (start_there s h n i c legal may.1);
      ended = Contains-append_right es fs (entry.Ended c t) (alone fs (entry.Ended c t) (stands ∙ ap (λ x. entry.Ended c x ∷ []) same));
    }

-- an end of this or another node, by a test
end_by : (s : Run) (h : List Event) (n m i c : ℕ) (u : Status) (es fs : List Entry) (t : Status) (b : Bool) → (m == n) ≡ b → IsLegal s h → (last_or None (statuses h n) ≡ Some t → EndedLast h es n t) → May s h (event.Ended m i c u) → StandsFor s h (event.Ended m i c u) fs → last_or None (statuses (h ++ event.Ended m i c u ∷ []) n) ≡ Some t → EndedLast (h ++ event.Ended m i c u ∷ []) (es ++ fs) n t
end_by s h n m i c u es fs t true same legal old may stands q =
    let is : m ≡ n = eqb-true m n same in
    subst (λ k. EndedLast (h ++ event.Ended k i c u ∷ []) (es ++ fs) n t) (sym is)
    (end_now s h n i c u es fs t legal (subst (λ k. May s h (event.Ended k i c u)) is may) (subst (λ k. StandsFor s h (event.Ended k i c u) fs) is stands) (subst (λ k. last_or None (statuses (h ++ event.Ended k i c u ∷ []) n) ≡ Some t) is q))
end_by s h n m i c u es fs t false same legal old may stands q =
    end_kept h (event.Ended m i c u) es fs n t (statuses_of n (event.Ended m i c u) same) old q

-- the command that ended last, behind one event more
end_more : (s : Run) (h : List Event) (e : Event) (n : ℕ) (es fs : List Entry) (t : Status) → IsLegal s h → (last_or None (statuses h n) ≡ Some t → EndedLast h es n t) → May s h e → StandsFor s h e fs → last_or None (statuses (h ++ e ∷ []) n) ≡ Some t → EndedLast (h ++ e ∷ []) (es ++ fs) n t
end_more s h (event.Ended m i c u) n es fs t legal old may stands q = end_by s h n m i c u es fs t (m == n) refl legal old may stands q
end_more s h e n es fs t legal old may stands q = end_kept h e es fs n t refl old q

-- the last status of a node is that of a child which the node started, and whose end is in the record
pub last_end : (s : Run) (h : List Event) (es : List Entry) (n : ℕ) (t : Status) → IsLegal s h → Matches s h es → last_or None (statuses h n) ≡ Some t → EndedLast h es n t
last_end s h es n t l m =
    kept_holds s (λ k fs. last_or None (statuses k n) ≡ Some t → EndedLast k fs n t) (λ q. absurd (cc)) (λ k e fs gs legal old may stands. end_more s k e n fs gs t legal old may stands) h es l m

-- ---- a body that failed by its statuses

-- an event with a reason has no status
quiet_reason : (n : ℕ) (e : Event) (r : Reason) → reason_in n e ≡ Some r → status_of n e ≡ None
quiet_reason n (event.Ended m i c t) r q = absurd (cc)
quiet_reason n e r q = refl

-- a node that is done isn't the one whose command ends
not_inside : (b : Bool) (d : Bool) (t : Status) → d ≡ true → (b ≡ true → d ≡ false) → (if b then Some t else None) ≡ None
not_inside true d t over inside = absurd (true≢false (sym over ∙ inside refl))
not_inside false d t over inside = refl

-- none of its commands ends behind the end of a body
quiet_done : (s : Run) (h : List Event) (n : ℕ) (e : Event) → May s h e → is_done h n ≡ true → status_of n e ≡ None
quiet_done s h n (event.Ended m i c t) may over =
    not_inside (m == n) (is_done h n) t over (λ same. (inside h n (subst (λ k. IsDue s h k Ended) (eqb-true m n same) may.0).0).not_done)
quiet_done s h n e may over = refl

-- a body that failed by its statuses stays so behind one event more
status_by : (s : Run) (h : List Event) (n : ℕ) (e : Event) (o : Option Reason) → reason_of h n ≡ o → (reason_of h n ≡ Some reason.Status → next_step s.nodes h n ≡ step.Failed) → May s h e → reason_of (h ++ e ∷ []) n ≡ Some reason.Status → next_step s.nodes (h ++ e ∷ []) n ≡ step.Failed
status_by s h n e None q old may now =
    let is = sym (reason_new h e n q) ∙ now in
    next_step_stays s.nodes h e n (quiet_reason n e reason.Status is) ∙ (reason_due s h n reason.Status e may is).next
status_by s h n e (Some r) q old may now =
    let same : reason_of h n ≡ Some reason.Status = q ∙ sym (reason_kept h e n r q) ∙ now in
    next_step_stays s.nodes h e n (quiet_done s h n e may (reason_done h n r q)) ∙ old same

-- a body that failed by its statuses: they say so
pub status_failed : (s : Run) (h : List Event) (n : ℕ) → IsLegal s h → reason_of h n ≡ Some reason.Status → next_step s.nodes h n ≡ step.Failed
status_failed s h n l =
    legal_holds s (λ k. reason_of k n ≡ Some reason.Status → next_step s.nodes k n ≡ step.Failed) (λ q. absurd (cc)) (λ k e legal old may. status_by s k n e (reason_of k n) refl old may) h l

-- a start or a good end isn't a failure
start_not_failed : (b : Bool) (n : ℕ) → (if b then step.Start n else step.Well) ≡ step.Failed → ⊥
start_not_failed true n e = cc
start_not_failed false n e = cc

-- a status behind which a body fails doesn't let it go on
failed_goes : (w : Work) (n : ℕ) (c : Command) (t : Status) (a b : Bool) → ends_body c t ≡ a → goes_on c t ≡ b → (if a then step.Well else (if b then start_or_well w n else step.Failed)) ≡ step.Failed → goes_on c t ≡ false
failed_goes w n c t true b p q e = absurd (cc)
failed_goes w n c t false true p q e = absurd (start_not_failed _ n e)
failed_goes w n c t false false p q e = q

-- the code behind which a body fails isn't 0, by its command
code_at : (w : Work) (n : ℕ) (o : Option Command) (z : ℤ) → step_behind w n o (Some (status.Code z)) ≡ step.Failed → z ≡ pos 0 → ⊥
code_at w n None z e zero = start_not_failed _ n e
code_at w n (Some c) z e zero =
    let going = failed_goes w n c (status.Code z) _ _ refl refl e in
    let other : int_eq z (pos 0) ≡ false = (neither (is_code (pos 0) (status.Code z)) (c.forgiving && not c.guard) going).0 in
    true≢false (subst (λ k. int_eq k (pos 0) ≡ false) zero other)

-- the code that fails a body isn't 0
pub failed_code : (w : Work) (ts : List Status) (z : ℤ) → after w ts ≡ step.Failed → last_or None ts ≡ Some (status.Code z) → z ≡ pos 0 → ⊥
failed_code w ts z e q =
    code_at w (length ts) (slice_get (commands_of w) (length ts - 1)) z
    (subst (λ o. step_behind w (length ts) (slice_get (commands_of w) (length ts - 1)) o ≡ step.Failed) q (after_judged w ts ∙ e))

-- a step that ends a body isn't a failure
failed_ends : (a : Bool) (s : Step) → a ≡ true → (if a then step.Well else s) ≡ step.Failed → ⊥
failed_ends true s is e = let no : ⊥ = cc in no
failed_ends false s is e = let no : ⊥ = cc in no

-- the code behind which a guard's body fails isn't 1
guard_at : (w : Work) (n : ℕ) (c : Command) (z : ℤ) → c.guard ≡ true → step_behind w n (Some c) (Some (status.Code z)) ≡ step.Failed → z ≡ pos 1 → ⊥
guard_at w n c z guards e one = failed_ends (ends_body c (status.Code z)) _ (ap (λ g. g && int_eq z (pos 1)) guards ∙ ap (λ k. int_eq k (pos 1)) one) e

pub guard_code : (w : Work) (ts : List Status) (z : ℤ) (c : Command) → slice_get (commands_of w) (length ts - 1) ≡ Some c → c.guard ≡ true → after w ts ≡ step.Failed → last_or None ts ≡ Some (status.Code z) → z ≡ pos 1 → ⊥
guard_code w ts z c at guards e q one =
    guard_at w (length ts) c z guards
    (subst (λ k. step_behind w (length ts) k (Some (status.Code z)) ≡ step.Failed) at (subst (λ o. step_behind w (length ts) (slice_get (commands_of w) (length ts - 1)) o ≡ step.Failed) q (after_judged w ts ∙ e))) one

-- ---- a body that a call of the host ended

-- the part of a record that a reason stands for
record Part (s : Run) (r : Reason) (es : List Entry) : Type 0 where
  before : List Event
  node : ℕ
  part : List Entry
  stands : FailureStandsFor s before node r part
  within : (x : Entry) → Contains part x → Contains es x

-- the part of a failure of this node, by a test
part_at : (s : Run) (h : List Event) (m : ℕ) (r t : Reason) (fs : List Entry) (b : Bool) → (if b then Some t else None) ≡ Some r → FailureStandsFor s h m t fs → Part s r fs
part_at s h m r t fs true q stands = let same : t ≡ r = cc in record { before = h; node = m; part = fs; stands = subst (λ k. FailureStandsFor s h m k fs) same stands; within = λ x c. c }
part_at s h m r t fs false q stands = absurd (cc)

-- the part of an event that failed
part_of : (s : Run) (h : List Event) (n : ℕ) (r : Reason) (e : Event) (fs : List Entry) → reason_in n e ≡ Some r → StandsFor s h e fs → Part s r fs
part_of s h n r (event.Done m outcome.Well) fs q stands = absurd (cc)
part_of s h n r (event.Done m (outcome.Failed t)) fs q stands = part_at s h m r t fs (m == n) q stands
part_of s h n r e fs q stands = absurd (cc)

-- the part stays behind one event more
part_more : (s : Run) (h : List Event) (e : Event) (es fs : List Entry) (n : ℕ) (r : Reason) (o : Option Reason) → reason_of h n ≡ o → (reason_of h n ≡ Some r → Part s r es) → StandsFor s h e fs → reason_of (h ++ e ∷ []) n ≡ Some r → Part s r (es ++ fs)
part_more s h e es fs n r None q old stands now =
    let p = part_of s h n r e fs (sym (reason_new h e n q) ∙ now) stands in
    record { before = p.before; node = p.node; part = p.part; stands = p.stands; within = λ x c. Contains-append_right es fs x (p.within x c) }
part_more s h e es fs n r (Some t) q old stands now =
    let p = old (q ∙ sym (reason_kept h e n t q) ∙ now) in
    record { before = p.before; node = p.node; part = p.part; stands = p.stands; within = λ x c. Contains-append_left es fs x (p.within x c) }

-- a reason of a node has its part of the record
the_part : (s : Run) (h : List Event) (es : List Entry) (n : ℕ) (r : Reason) → Matches s h es → reason_of h n ≡ Some r → Part s r es
the_part s h es n r m =
    matches_holds s (λ k fs. reason_of k n ≡ Some r → Part s r fs) (λ q. absurd (cc)) (λ k e fs gs old stands. part_more s k e fs gs n r (reason_of k n) refl old stands) h es m

-- behind an echo stands what was made of the command
behind : (s : Run) (h : List Event) (n : ℕ) (made : Command → Entry) (fs : List Entry) → BehindEcho s h n (λ c. made c ∷ []) fs → (c : Command) × Contains fs (made c)
behind s h n made fs b =
    let c = option_there (λ c. fs ≡ printed_entries c.echo ++ made c ∷ []) (command_at s.nodes n b.0) b.2 in
    (c.0, subst (λ k. Contains k (made c.0)) (sym c.1) (pushed (printed_entries c.0.echo) (made c.0)))

-- behind sums stands what was made of them
sums_shown : (s : Run) (n : ℕ) (many : CachePlan → ℕ → Type 0) (made : CachePlan → List (List ℕ) → Entry) (fs : List Entry) → OfCache s n (λ c. SumsFirst c (many c) (λ sums. made c sums ∷ []) fs)
    → (c : CachePlan) × (sums : List (List ℕ)) × Contains fs (made c sums)
sums_shown s n many made fs b =
    let c = option_there (λ c. SumsFirst c (many c) (λ sums. made c sums ∷ []) fs) (cache_at s.nodes n) b in
    (c.0, c.1.0, subst (λ k. Contains k (made c.0 c.1.0)) (sym c.1.2) (pushed (summed_entries c.0.paths c.1.0) (made c.0 c.1.0)))

-- behind a check stands what was made
checked_shown : (fs : List Entry) (outputs : List (List ℕ)) (x : Entry) → fs ≡ entry.Checked outputs None ∷ x ∷ [] → Contains fs x
checked_shown fs outputs x e = subst (λ k. Contains k x) (sym e) (pushed (entry.Checked outputs None ∷ []) x)

-- the part of a failed call shows the failure
fault_shown : (s : Run) (h : List Event) (n : ℕ) (c : Call) (fs : List Entry) → FaultStandsFor s h n c fs → ShowsFailure c fs
fault_shown s h n call.Ask fs b = inl (alone fs (entry.Failed call.Ask) b)
fault_shown s h n call.Print fs (inl b) =
    let x = begun_there s h n (λ made. fs ≡ made ++ entry.Failed call.Print ∷ []) b.2 in
    inl (subst (λ k. Contains k (entry.Failed call.Print)) (sym x.2) (pushed x.0 (entry.Failed call.Print)))
fault_shown s h n call.Print fs (inr b) = inl (alone fs (entry.Failed call.Print) b.3)
fault_shown s h n call.Temp fs b = inl (behind s h n (λ c. entry.Failed call.Temp) fs b).1
fault_shown s h n call.Start fs b = inl (behind s h n (λ c. entry.Failed call.Start) fs b).1
fault_shown s h n call.Wait fs (inl b) = inl (alone fs (entry.Failed call.Wait) b)
fault_shown s h n call.Wait fs (inr b) = inr (refl, b.1, b.2, alone fs (entry.Strayed b.1 b.2) b.5)
fault_shown s h n call.Sum fs b = inl (sums_shown s n (λ c many. many < length c.paths) (λ c sums. entry.Failed call.Sum) fs b).2
fault_shown s h n call.Probe fs b = inl (sums_shown s n (λ c many. many ≡ length c.paths) (λ c sums. entry.Failed call.Probe) fs b).2
fault_shown s h n call.Check fs b = inl (alone fs (entry.Failed call.Check) b)
fault_shown s h n call.Save fs b =
    let c = option_there (λ c. fs ≡ entry.Checked c.outputs None ∷ entry.Failed call.Save ∷ []) (cache_at s.nodes n) b in
    inl (checked_shown fs c.0.outputs (entry.Failed call.Save) c.1)
fault_shown s h n _ fs b = absurd b

-- the part of a missed call shows the miss
miss_shown : (s : Run) (h : List Event) (n : ℕ) (c : Call) (m : Miss) (fs : List Entry) → MissStandsFor s h n c m fs → ShowsMiss m fs
miss_shown s h n call.Ask m fs b = (codes "-", alone fs (entry.Missed (codes "-") m) b)
miss_shown s h n call.Temp m fs b = let c = behind s h n (λ c. entry.Missed (script_folder c.spec) m) fs b in (script_folder c.0.spec, c.1)
miss_shown s h n call.Probe m fs b = let c = sums_shown s n (λ c many. many ≡ length c.paths) (λ c sums. entry.Missed (entry_of c sums) m) fs b in (entry_of c.0 c.1, c.2)
miss_shown s h n call.Check m fs b =
    let c = option_there (λ c. (path : List ℕ) × Contains c.outputs path × (fs ≡ entry.Missed path m ∷ [])) (cache_at s.nodes n) b in
    (c.1.0, alone fs (entry.Missed c.1.0 m) c.1.2)
miss_shown s h n call.Save m fs b =
    let x = sums_there s h n (λ c sums. fs ≡ entry.Checked c.outputs None ∷ entry.Missed (entry_of c sums) m ∷ []) b in
    (entry_of x.0 x.1, checked_shown fs x.0.outputs (entry.Missed (entry_of x.0 x.1) m) x.2)
miss_shown s h n _ m fs b = absurd b

-- what a part shows, the whole shows
shown_within : (c : Call) (fs es : List Entry) → ((x : Entry) → Contains fs x → Contains es x) → ShowsFailure c fs → ShowsFailure c es
shown_within c fs es within (inl a) = inl (within (entry.Failed c) a)
shown_within c fs es within (inr b) = inr (b.0, b.1, b.2, within (entry.Strayed b.1 b.2) b.3)

-- a body that a failed call ended: the record shows the failure
pub fault_caused : (s : Run) (h : List Event) (es : List Entry) (n : ℕ) (c : Call) → Matches s h es → reason_of h n ≡ Some (reason.Fault c) → ShowsFailure c es
fault_caused s h es n c m q =
    let p = the_part s h es n (reason.Fault c) m q in
    shown_within c p.part es p.within (fault_shown s p.before p.node c p.part p.stands)

-- and so does one that a miss ended
pub miss_caused : (s : Run) (h : List Event) (es : List Entry) (n : ℕ) (c : Call) (x : Miss) → Matches s h es → reason_of h n ≡ Some (reason.Place c x) → ShowsMiss x es
miss_caused s h es n c x m q =
    let p = the_part s h es n (reason.Place c x) m q in
    let shown = miss_shown s p.before p.node c x p.part p.stands in
    (shown.0, p.within (entry.Missed shown.0 x) shown.1)

-- ---- a node that wasn't confirmed

-- an answer by which a node isn't confirmed stands for its entry
refused_by : (s : Run) (h : List Event) (e : Event) (n : ℕ) (fs : List Entry) → answers false n e ≡ true → StandsFor s h e fs → ShowsRefusal fs
refused_by s h (event.Asked m y) n fs q stands =
    let p = option_there (λ p. (answer : List ℕ) × (is_yes answer ≡ y) × (fs ≡ entry.Asked p answer ∷ [])) (prompt_at s.nodes m) stands in
    (p.0, p.1.0, alone fs (entry.Asked p.0 p.1.0) p.1.2, p.1.1 ∙ not_true y (both (m == n) (not y) q).1)
refused_by s h _ n fs q stands = absurd (cc)

-- what a part shows of a refusal, the whole shows
refused_within : (fs es : List Entry) → ((x : Entry) → Contains fs x → Contains es x) → ShowsRefusal fs → ShowsRefusal es
refused_within fs es within r = (r.0, r.1, within (entry.Asked r.0 r.1) r.2, r.3)

-- a refusal is shown behind one event more, by whether that refuses
refused_more : (s : Run) (h : List Event) (e : Event) (n : ℕ) (es fs : List Entry) (b : Bool) → answers false n e ≡ b → (list_any (answers false n) h ≡ true → ShowsRefusal es) → StandsFor s h e fs → list_any (answers false n) (h ++ e ∷ []) ≡ true → ShowsRefusal (es ++ fs)
refused_more s h e n es fs true q old stands a = refused_within fs (es ++ fs) (λ x c. Contains-append_right es fs x c) (refused_by s h e n fs q stands)
refused_more s h e n es fs false q old stands a = refused_within es (es ++ fs) (λ x c. Contains-append_left es fs x c) (old (sym (any_none (answers false n) h e q) ∙ a))

-- a node that failed since it wasn't confirmed: the record shows an answer that is no yes
pub refusal_caused : (s : Run) (h : List Event) (es : List Entry) (n : ℕ) → IsLegal s h → Matches s h es → reason_of h n ≡ Some reason.NotConfirmed → ShowsRefusal es
refusal_caused s h es n l m q =
    matches_holds s (λ k fs. list_any (answers false n) k ≡ true → ShowsRefusal fs) (λ a. absurd (cc)) (λ k e fs gs old stands. refused_more s k e n fs gs (answers false n e) refl old stands) h es m
    (reason_since s n reason.NotConfirmed (λ k. list_any (answers false n) k ≡ true) (λ k e a. any_kept (answers false n) k e a) (λ k legal may. may.0) h l q)

-- ---- a signal that was caught

-- a given signal is one signal
signal_same : (g k : Signal) → Some k ≡ Some g → k ≡ g
signal_same g k e = cc

-- an event that caught a signal stands for its entry
signal_by : (s : Run) (h : List Event) (e : Event) (g : Signal) (fs : List Entry) → signal_in e ≡ Some g → StandsFor s h e fs → Contains fs (entry.Signalled g)
signal_by s h (event.Caught k) g fs q stands = alone fs (entry.Signalled g) (stands ∙ ap (λ x. entry.Signalled x ∷ []) (signal_same g k q))
signal_by s h _ g fs q stands = absurd (cc)

-- a shown signal stays shown behind one event more
signal_more : (s : Run) (h : List Event) (e : Event) (g : Signal) (es fs : List Entry) (o : Option Signal) → caught_signal h ≡ o → (caught_signal h ≡ Some g → Contains es (entry.Signalled g)) → StandsFor s h e fs → caught_signal (h ++ e ∷ []) ≡ Some g → Contains (es ++ fs) (entry.Signalled g)
signal_more s h e g es fs None q old stands now = Contains-append_right es fs (entry.Signalled g) (signal_by s h e g fs (sym (signal_new h e q) ∙ now) stands)
signal_more s h e g es fs (Some k) q old stands now = Contains-append_left es fs (entry.Signalled g) (old (q ∙ sym (signal_kept h e k q) ∙ now))

-- the signal that a history caught first has its entry
pub signal_shown : (s : Run) (h : List Event) (es : List Entry) (g : Signal) → Matches s h es → caught_signal h ≡ Some g → Contains es (entry.Signalled g)
signal_shown s h es g m =
    matches_holds s (λ k fs. caught_signal k ≡ Some g → Contains fs (entry.Signalled g)) (λ q. absurd (cc)) (λ k e fs gs old stands. signal_more s k e g fs gs (caught_signal k) refl old stands) h es m
