-- The numbers of started and ended commands of one node over a legal history, and what follows of its states.
use Rattle.std.proofs.Common.{◌≡◌, ℕ, ◌+◌, ◌<◌, ◌≤◌, ◌==◌, ◌&&◌, ◌||◌, not, Bool, true, false, List, [], ◌∷◌, ◌++◌, length, Option, Some, None, count_by, refl, ap, ap₂, sym, ◌∙◌, subst, arith, true≢false, eqb-true, eq-eqb, le-ltb, length-append}
use Rattle.std.specs.List.{list_any}
use Rattle.just_host_record.specs.declared.entry.Status.{Status}
use Rattle.just_sched_history.specs.declared.event.Event.{Event}
use Rattle.just_sched_history.specs.declared.event.Event.TheVariants as event
use Rattle.just_exec_work.specs.declared.work.Work.{Work}
use Rattle.just_exec_work.specs.declared.work.Step.TheVariants as step
use Rattle.just_exec_work.specs.Steps.{commands_of, after, EachWentOn}
use Rattle.just_sched_history.specs.Nodes.{work_at}
use Rattle.just_sched_history.specs.State.{is_over, asks, takes, skips, begins, starts, ends, concludes, gives, catches, status_of, start_of, has_taken, has_given, is_begun, is_done, is_over_well, is_open, start_count, end_count, is_running, statuses, last_start, has_caught}
use Rattle.just_sched_history.specs.Cached.{looks, saves}
use Rattle.just_sched_history.specs.Legal.{Run, Started, Ended, in_body, IsDue, May, IsLegal}
use Rattle.just_sched_history.proofs.Bodies.{after_start, all_went, went_push}
use Rattle.just_sched_history.proofs.Due.{asked_due, begun_due, done_once, gave_due, inside, is_inside, is_opened, looked_due, opened, rests, runs, saved_due, skip_due, took_ready}
use Rattle.just_sched_history.proofs.Histories.{legal_holds}
use Rattle.just_sched_history.proofs.OneMore.{last_start_stays, last_started, statuses_ended, statuses_stay}
use Rattle.just_sched_history.proofs.Order.{begun_took, begun_unskipped, gave_over, gave_took, none_zero, once, over_took, started_begun}
use Rattle.just_sched_history.proofs.Others.{starts_of, statuses_of}
use Rattle.just_sched_history.proofs.Tests.{count_none, count_now, unless}

-- ---- the counts and statuses of one node

-- what holds of a node's work, of how many of its commands were started and ended, of their statuses and the last start
pub record CountsAgree (w : Work) (started ended : ℕ) (ts : List Status) (last : Option (ℕ × ℕ)) : Type 0 where
  pub low : ended ≤ started
  pub high : started ≤ ended + 1
  pub fits : started ≤ length (commands_of w)
  pub told : length ts ≡ ended
  pub went : EachWentOn (commands_of w) ts
  -- where a command was started and hasn't ended, it is the next one
  pub next : ended < started → after w ts ≡ step.Start (length ts)
  pub child : ended < started → (c : ℕ) × (last ≡ Some (length ts, c))

-- the counts of a node over a history agree
abbrev pub NodeAgrees : Run → List Event → ℕ → Type 0
NodeAgrees s h n = CountsAgree (work_at s.nodes n) (start_count h n) (end_count h n) (statuses h n) (last_start h n)

-- the counts of nothing agree
agrees_none : (w : Work) → CountsAgree w 0 0 [] None
agrees_none w = record { low = omega arith; high = omega arith; fits = omega arith; told = refl; went = tt; next = λ lt. absurd (omega arith); child = λ lt. absurd (omega arith) }

-- a start of the next command keeps them
agrees_start : (w : Work) (a b : ℕ) (ts : List Status) (l : Option (ℕ × ℕ)) (i c : ℕ) → CountsAgree w a b ts l → a ≤ b → after w ts ≡ step.Start i → CountsAgree w (a + 1) b ts (Some (i, c))
agrees_start w a b ts l i c agrees le e =
    let at = after_start w ts i e in
    record {
      low = omega (arith, agrees.low);
      high = omega (arith, le);
      fits = omega (arith, at.1, agrees.told, le);
      told = agrees.told;
      went = agrees.went;
      next = λ lt. e ∙ ap (λ k. step.Start k) at.0;
      child = λ lt. (c, ap (λ k. Some (k, c)) at.0);
    }

-- an end of the running command keeps them
agrees_end : (w : Work) (a b : ℕ) (ts : List Status) (l : Option (ℕ × ℕ)) (t : Status) → CountsAgree w a b ts l → b < a → CountsAgree w a (b + 1) (ts ++ t ∷ []) l
agrees_end w a b ts l t agrees lt =
    record {
      low = omega (arith, lt);
      high = omega (arith, agrees.high);
      fits = agrees.fits;
      told = length-append ts (t ∷ []) ∙ omega (arith, agrees.told);
      went = went_push (commands_of w) ts t (all_went w ts (length ts) agrees.went (agrees.next lt)) (omega (arith, agrees.told, agrees.fits, lt));
      next = λ less. absurd (omega (arith, agrees.high, less));
      child = λ less. absurd (omega (arith, agrees.high, less));
    }

-- counts that are equal agree
agrees_same : (w : Work) (a b a' b' : ℕ) (ts ts' : List Status) (l l' : Option (ℕ × ℕ)) → a' ≡ a → b' ≡ b → ts' ≡ ts → l' ≡ l → CountsAgree w a b ts l → CountsAgree w a' b' ts' l'
agrees_same w a b a' b' ts ts' l l' p q r t agrees =
    subst (λ x. CountsAgree w x b' ts' l') (sym p) (subst (λ x. CountsAgree w a x ts' l') (sym q) (subst (λ x. CountsAgree w a b x l') (sym r) (subst (λ x. CountsAgree w a b ts x) (sym t) agrees)))

-- an event that starts and ends nothing of the node keeps them
agrees_other : (s : Run) (h : List Event) (n : ℕ) (e : Event) → starts n e ≡ false → ends n e ≡ false → status_of n e ≡ None → start_of n e ≡ None → NodeAgrees s h n → NodeAgrees s (h ++ e ∷ []) n
agrees_other s h n e p q r t agrees =
    agrees_same (work_at s.nodes n) _ _ _ _ _ _ _ _ (count_none (starts n) h e p) (count_none (ends n) h e q) (statuses_stay h e n r) (last_start_stays h e n t) agrees

-- a start of the node keeps them
agrees_started : (s : Run) (h : List Event) (n i c : ℕ) → IsDue s h n (Started i) → NodeAgrees s h n → NodeAgrees s (h ++ event.Started n i c ∷ []) n
agrees_started s h n i c due agrees =
    let e = event.Started n i c in
    agrees_same (work_at s.nodes n) _ _ _ _ _ _ _ _ (count_now (starts n) h e (eq-eqb n n refl)) (count_none (ends n) h e refl) (statuses_stay h e n refl) (last_started h n i c)
    (agrees_start (work_at s.nodes n) (start_count h n) (end_count h n) (statuses h n) (last_start h n) i c agrees (rests h n due.2 (inside h n due.0).not_done) due.3)

-- an end of the node keeps them
agrees_ended : (s : Run) (h : List Event) (n i c : ℕ) (t : Status) → IsDue s h n Ended → NodeAgrees s h n → NodeAgrees s (h ++ event.Ended n i c t ∷ []) n
agrees_ended s h n i c t due agrees =
    let e = event.Ended n i c t in
    agrees_same (work_at s.nodes n) _ _ _ _ _ _ _ _ (count_none (starts n) h e refl) (count_now (ends n) h e (eq-eqb n n refl)) (statuses_ended h n i c t) (last_start_stays h e n refl)
    (agrees_end (work_at s.nodes n) (start_count h n) (end_count h n) (statuses h n) (last_start h n) t agrees (runs h n due.1).0)

-- a start of this or another node keeps them
agrees_start_by : (s : Run) (h : List Event) (n m i c : ℕ) (b : Bool) → (m == n) ≡ b → IsDue s h m (Started i) → NodeAgrees s h n → NodeAgrees s (h ++ event.Started m i c ∷ []) n
agrees_start_by s h n m i c true q due agrees =
    subst (λ k. NodeAgrees s (h ++ event.Started k i c ∷ []) n) (sym (eqb-true m n q)) (agrees_started s h n i c (subst (λ k. IsDue s h k (Started i)) (eqb-true m n q) due) agrees)
agrees_start_by s h n m i c false q due agrees = agrees_other s h n (event.Started m i c) q refl refl (starts_of n (event.Started m i c) q) agrees

-- an end of this or another node keeps them
agrees_end_by : (s : Run) (h : List Event) (n m i c : ℕ) (t : Status) (b : Bool) → (m == n) ≡ b → IsDue s h m Ended → NodeAgrees s h n → NodeAgrees s (h ++ event.Ended m i c t ∷ []) n
agrees_end_by s h n m i c t true q due agrees =
    subst (λ k. NodeAgrees s (h ++ event.Ended k i c t ∷ []) n) (sym (eqb-true m n q)) (agrees_ended s h n i c t (subst (λ k. IsDue s h k Ended) (eqb-true m n q) due) agrees)
agrees_end_by s h n m i c t false q due agrees = agrees_other s h n (event.Ended m i c t) refl q (statuses_of n (event.Ended m i c t) q) refl agrees

-- each event that may come keeps them
agrees_step : (s : Run) (n : ℕ) (h : List Event) (e : Event) → May s h e → NodeAgrees s h n → NodeAgrees s (h ++ e ∷ []) n
agrees_step s n h (event.Started m i c) may agrees = agrees_start_by s h n m i c (m == n) refl may.0 agrees
agrees_step s n h (event.Ended m i c t) may agrees = agrees_end_by s h n m i c t (m == n) refl may.0 agrees
agrees_step s n h e may agrees = agrees_other s h n e refl refl refl refl agrees

-- over a legal history the counts of each node agree
pub agrees : (s : Run) (h : List Event) (n : ℕ) → IsLegal s h → NodeAgrees s h n
agrees s h n l = legal_holds s (λ k. NodeAgrees s k n) (agrees_none (work_at s.nodes n)) (λ k e legal old m. agrees_step s n k e m old) h l

-- ---- what follows for a node

-- a node is asked once at most
pub asked_once : (s : Run) (h : List Event) (n : ℕ) → IsLegal s h → count_by (asks n) h ≤ 1
asked_once s h n l = once s (asks n) (λ k e legal m q. (asked_due s k n e m q).not_asked) h l

-- it takes a job once at most
pub took_once : (s : Run) (h : List Event) (n : ℕ) → IsLegal s h → count_by (takes n) h ≤ 1
took_once s h n l = once s (takes n) (λ k e legal m q. (took_ready s k n e m q).not_taken) h l

-- it is begun once at most
pub begun_once : (s : Run) (h : List Event) (n : ℕ) → IsLegal s h → count_by (begins n) h ≤ 1
begun_once s h n l = once s (begins n) (λ k e legal m q. (begun_due s k n e m q).1) h l

-- it is done once at most
pub ended_once : (s : Run) (h : List Event) (n : ℕ) → IsLegal s h → count_by (concludes n) h ≤ 1
ended_once s h n l = once s (concludes n) (λ k e legal m q. done_once s k n e m q) h l

-- it is skipped once at most
pub skipped_once : (s : Run) (h : List Event) (n : ℕ) → IsLegal s h → count_by (skips n) h ≤ 1
skipped_once s h n l = once s (skips n) (λ k e legal m q. (inside k n (skip_due s k n e m q).0).not_skipped) h l

-- its entry is looked at once at most
pub looked_once : (s : Run) (h : List Event) (n : ℕ) → IsLegal s h → count_by (looks n) h ≤ 1
looked_once s h n l = once s (looks n) (λ k e legal m q. (looked_due s k n e m q).2) h l

-- and saved once at most
pub saved_once : (s : Run) (h : List Event) (n : ℕ) → IsLegal s h → count_by (saves n) h ≤ 1
saved_once s h n l = once s (saves n) (λ k e legal m q. (saved_due s k n e m q).5) h l

-- it gives its job back once at most
pub gave_once : (s : Run) (h : List Event) (n : ℕ) → IsLegal s h → count_by (gives n) h ≤ 1
gave_once s h n l = once s (gives n) (λ k e legal m q. (opened k n (gave_due s k n e m q).0).1) h l

-- a signal is caught where none was
caught_due : (s : Run) (h : List Event) (e : Event) → May s h e → catches e ≡ true → has_caught h ≡ false
caught_due s h (event.Caught g) may q = may
caught_due s h _ may q = absurd (cc)

-- a signal is caught once at most
pub caught_once : (s : Run) (h : List Event) → IsLegal s h → count_by catches h ≤ 1
caught_once s h l = once s catches (λ k e legal m q. caught_due s k e m q) h l

-- a node that took no job has nothing else of a body
pub record IsUntaken (h : List Event) (n : ℕ) : Type 0 where
  pub begun : is_begun h n ≡ false
  pub gave : has_given h n ≡ false
  pub is_open : is_open h n ≡ false
  pub over_well : is_over_well h n ≡ false
  pub no_start : list_any (starts n) h ≡ false
  pub starts : start_count h n ≡ 0
  pub ends : end_count h n ≡ 0
  pub statuses : statuses h n ≡ []
  pub running : is_running h n ≡ false

-- a list of length 0 is empty
empty : {A : Type 0} (xs : List A) → length xs ≡ 0 → xs ≡ []
empty [] e = refl
empty (x ∷ xs) e = absurd (omega arith)

-- a node that took no job has nothing else of a body
pub untaken : (s : Run) (h : List Event) (n : ℕ) → IsLegal s h → has_taken h n ≡ false → IsUntaken h n
untaken s h n l t =
    let b = unless (is_begun h n) (has_taken h n) (begun_took s h n l) t in
    let none = unless (list_any (starts n) h) (is_begun h n) (started_begun s h n l) b in
    let z = none_zero (starts n) h none in
    let k = agrees s h n l in
    let y : end_count h n ≡ 0 = omega (arith, z, k.low) in
    record {
      begun = b;
      gave = unless (has_given h n) (has_taken h n) (gave_took s h n l) t;
      is_open = ap (λ x. x && not (has_given h n)) t;
      over_well = unless (is_over_well h n) (has_taken h n) (over_took s h n l) t;
      no_start = none;
      starts = z;
      ends = y;
      statuses = empty (statuses h n) (omega (arith, k.told, y));
      running = ap (λ x. x && not (is_done h n)) (le-ltb (end_count h n) (start_count h n) (omega (arith, z)));
    }

-- the command that a node is due to start is there, and stands behind those that ended
pub due_start : (s : Run) (h : List Event) (n i : ℕ) → IsDue s h n (Started i) → (i ≡ length (statuses h n)) × (i < length (commands_of (work_at s.nodes n)))
due_start s h n i due =
    let a = after_start (work_at s.nodes n) (statuses h n) i due.3 in
    (a.0, omega (arith, a.0, a.1))

-- each status but the last let the body go on
pub went_on : (s : Run) (h : List Event) (n : ℕ) → IsLegal s h → EachWentOn (commands_of (work_at s.nodes n)) (statuses h n)
went_on s h n l = (agrees s h n l).went

-- a body that was begun and isn't done is in its body
pub begun_inside : (s : Run) (h : List Event) (n : ℕ) → IsLegal s h → is_begun h n ≡ true → is_done h n ≡ false → in_body h n ≡ true
begun_inside s h n l b d =
    let not_over : is_over h n ≡ false = ap₂ (λ x y. x || y) (begun_unskipped s h n l b) d in
    is_inside h n (is_opened h n (begun_took s h n l b) (unless (has_given h n) (is_over h n) (gave_over s h n l) not_over)) not_over

-- what is counted is there, by the test
any_counted : {A : Type 0} (p : A → Bool) (h : List A) (b : Bool) → list_any p h ≡ b → 0 < count_by p h → list_any p h ≡ true
any_counted p h true q lt = q
any_counted p h false q lt = absurd (omega (arith, none_zero p h q, lt))

-- what is counted is there
pub some_counted : {A : Type 0} (p : A → Bool) (h : List A) → 0 < count_by p h → list_any p h ≡ true
some_counted p h lt = any_counted p h (list_any p h) refl lt

-- a node that runs was begun
pub running_begun : (s : Run) (h : List Event) (n : ℕ) → IsLegal s h → is_running h n ≡ true → is_begun h n ≡ true
running_begun s h n l r = started_begun s h n l (some_counted (starts n) h (omega (arith, (runs h n r).0)))

-- a node that runs is in its body, and has a last start
pub running_inside : (s : Run) (h : List Event) (n : ℕ) → IsLegal s h → is_running h n ≡ true → in_body h n ≡ true
running_inside s h n l r = begun_inside s h n l (running_begun s h n l r) (runs h n r).1

-- the place of a start that is there
abbrev place_in : Option (ℕ × ℕ) → ℕ
place_in (Some x) = x.0
place_in None = 0

-- the place of the command that runs
pub running_place : (s : Run) (h : List Event) (n i c : ℕ) → IsLegal s h → is_running h n ≡ true → last_start h n ≡ Some (i, c) → (i ≡ length (statuses h n)) × (i < length (commands_of (work_at s.nodes n)))
running_place s h n i c l r q =
    let k = agrees s h n l in
    let d = k.child (runs h n r).0 in
    let same : i ≡ length (statuses h n) = ap place_in (sym q ∙ d.1) in
    (same, omega (arith, same, k.told, k.fits, (runs h n r).0))

-- a body that is over runs nothing, by the test
over_still_at : (s : Run) (h : List Event) (n : ℕ) → IsLegal s h → is_over h n ≡ true → (b : Bool) → is_running h n ≡ b → is_running h n ≡ false
over_still_at s h n l o true r =
    let x = inside h n (running_inside s h n l r) in
    absurd (true≢false (sym o ∙ ap₂ (λ a b. a || b) x.not_skipped x.not_done))
over_still_at s h n l o false r = r

-- a body that is over runs no command
pub over_still : (s : Run) (h : List Event) (n : ℕ) → IsLegal s h → is_over h n ≡ true → is_running h n ≡ false
over_still s h n l o = over_still_at s h n l o (is_running h n) refl
