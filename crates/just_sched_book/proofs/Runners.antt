-- How many bodies run a child over a legal history, and what is kept of open bodies as it grows.
use Rattle.std.proofs.Common.{◌≡◌, ◌≢◌, ℕ, ◌+◌, ◌<◌, ◌≤◌, ◌==◌, ◌⊎◌, inl, inr, Bool, true, false, cond, true≢false, List, [], ◌∷◌, ◌++◌, length, count_by, Option, Some, None, refl, ap, ap₂, sym, ◌∙◌, subst, arith, eqb-true}
use Rattle.std.specs.List.{range_with_len}
use Rattle.std.proofs.lemmas.List.Sums.{sum_by-cons}
use Rattle.std.proofs.Math.Bool.{Bool-set}
use Rattle.std.proofs.Math.Logic.{∥∥₁_elim}
use Rattle.std.proofs.Math.Nat.{ℕ_set}
use Rattle.just_host_record.specs.declared.entry.Call.{Call}
use Rattle.just_host_record.specs.declared.entry.Call.TheVariants as call
use Rattle.just_host_record.specs.declared.outside.Host
use Rattle.just_host_record.specs.declared.signal.Signal.{Signal}
use Rattle.just_host_record.specs.World.{Moment}
use Rattle.just_path.specs.declared.host.PathHost
use Rattle.just_sched_history.specs.declared.event.Event.{Event}
use Rattle.just_sched_history.specs.declared.event.Event.TheVariants as event
use Rattle.just_sched_history.specs.declared.event.Idle.{Idle}
use Rattle.just_sched_history.specs.declared.event.Outcome.{Outcome}
use Rattle.just_sched_history.specs.declared.event.Outcome.TheVariants as outcome
use Rattle.just_sched_history.specs.declared.event.Reason.{Reason}
use Rattle.just_sched_history.specs.declared.event.Reason.TheVariants as reason
use Rattle.just_sched_book.specs.declared.token.Next.{Next}
use Rattle.just_sched_book.specs.declared.token.Next.TheVariants as next
use Rattle.just_sched_book.specs.Account.{IsAccount}
use Rattle.just_sched_history.specs.Legal.{Run, Due, Asked, Looked, Begun, Started, Ended, Saved, IsDue, May, MayFail, MayMiss, MayFailBy, IsLegal, is_start, all_starts}
use Rattle.just_sched_history.specs.Match.{IsStranger}
use Rattle.just_sched_history.specs.Moves.{concerns, GrowsBy, GrowsOrCatches, IsMove, RunsWith, Rests}
use Rattle.just_sched_book.specs.MoveAnswers.{MatchNext}
use Rattle.just_sched_history.specs.Room.{settles, settle_count}
use Rattle.just_sched_history.specs.Running.{running_bodies, EachOpenRuns}
use Rattle.just_sched_history.specs.Start.{Start, run_of}
use Rattle.just_sched_history.specs.State.{catches, starts, concludes, is_begun, is_done, is_open, start_count, is_running, last_start}
use Rattle.just_sched_history.proofs.Asking.{to_ask_still, no_still}
use Rattle.just_sched_history.proofs.Below.{each_or}
use Rattle.just_sched_history.proofs.Counts.{agrees, running_begun, running_inside}
use Rattle.just_sched_history.proofs.Due.{by_not_done, inside, rests, runs}
use Rattle.just_sched_history.proofs.EventRoom.{own, settled, split}
use Rattle.just_sched_book.proofs.Accounts.{node_in}
use Rattle.just_sched_history.proofs.Grows.{grows_both, or_caught, others_open, others_run}
use Rattle.just_sched_history.proofs.Histories.{legal_holds}
use Rattle.just_sched_history.proofs.Order.{unlooked_unbegun}
use Rattle.just_sched_history.proofs.PlanShape.{IsFormed}
use Rattle.just_sched_history.proofs.Sums.{sum_add, sum_lt, sum_same, sum_zero}
use Rattle.just_sched_history.proofs.Tests.{any_none, count_none, count_now, unless}

-- ---- a body that is done, but for a failed wait, was between two commands

-- a body that isn't begun runs nothing
unbegun_still : (s : Run) (h : List Event) (n : ℕ) → IsLegal s h → is_begun h n ≡ false → is_running h n ≡ false
unbegun_still s h n l b = unless (is_running h n) (is_begun h n) (running_begun s h n l) b

-- a node with a due event that isn't an end runs nothing
due_still : (s : Run) (h : List Event) (n : ℕ) (d : Due) → IsLegal s h → IsDue s h n d → (d ≢ Ended) → is_running h n ≡ false
due_still s h n Asked l due other = to_ask_still s h n l due
due_still s h n Begun l due other = unbegun_still s h n l due.1
due_still s h n (Started i) l due other = due.2
due_still s h n Ended l due other = absurd (other refl)
due_still s h n Looked l due other = unbegun_still s h n l (unlooked_unbegun s h n l due.1 due.2)
due_still s h n Saved l due other = due.2

-- the failure isn't that of a wait
abbrev IsNoWait : Reason → Type 0
IsNoWait (reason.Fault call.Wait) = ⊥
IsNoWait _ = Unit {0}

-- a call that misses is made before a child runs
miss_still : (s : Run) (h : List Event) (n : ℕ) (c : Call) → IsLegal s h → MayMiss s h n c → is_running h n ≡ false
miss_still s h n call.Ask l may = due_still s h n Asked l may (λ e. cc)
miss_still s h n call.Temp l may = may.1.2
miss_still s h n call.Probe l may = due_still s h n Looked l may (λ e. cc)
miss_still s h n call.Check l may = may.2
miss_still s h n call.Save l may = may.2
miss_still s h n _ l may = absurd may

-- a call that fails, but a wait, is made before a child runs
fail_still : (s : Run) (h : List Event) (n : ℕ) (c : Call) → IsLegal s h → IsNoWait (reason.Fault c) → MayFail s h n c → is_running h n ≡ false
fail_still s h n call.Ask l other may = due_still s h n Asked l may (λ e. cc)
fail_still s h n call.Print l other (inl may) = unbegun_still s h n l may.1
fail_still s h n call.Print l other (inr may) = may.1.2
fail_still s h n call.Temp l other may = may.1.2
fail_still s h n call.Start l other may = may.1.2
fail_still s h n call.Wait l other may = absurd other
fail_still s h n call.Sum l other may = due_still s h n Looked l may (λ e. cc)
fail_still s h n call.Probe l other may = due_still s h n Looked l may (λ e. cc)
fail_still s h n call.Check l other may = may.2
fail_still s h n call.Save l other may = may.2
fail_still s h n _ l other may = absurd may

-- a body that fails, but by a wait, runs nothing
failing_still : (s : Run) (h : List Event) (n : ℕ) (r : Reason) → IsLegal s h → IsNoWait r → MayFailBy s h n r → is_running h n ≡ false
failing_still s h n reason.Status l other may = may.between_commands
failing_still s h n reason.NotConfirmed l other may = no_still s h n l may.0
failing_still s h n (reason.Input j m) l other may = due_still s h n Looked l may.0 (λ e. cc)
failing_still s h n (reason.Output j) l other may = due_still s h n Saved l may.0 (λ e. cc)
failing_still s h n (reason.Place c m) l other may = miss_still s h n c l may
failing_still s h n (reason.Fault c) l other may = fail_still s h n c l other may
failing_still s h n reason.Interrupted l other may = may.0.1.2
failing_still s h n reason.NoMemory l other may = due_still s h n may.0 l may.1 may.2

-- ---- a node's settled children are those that it started, once it is done

-- so many children were settled as were started
abbrev IsSettled : List Event → ℕ → Type 0
IsSettled h n = is_done h n ≡ true → count_by (own settles n) h ≡ start_count h n

-- an event that settles and starts nothing of the node, and doesn't conclude it, keeps that
settled_as : (h : List Event) (n : ℕ) (e : Event) → own settles n e ≡ false → starts n e ≡ false → concludes n e ≡ false → IsSettled h n → IsSettled (h ++ e ∷ []) n
settled_as h n e p q r old d = count_none (own settles n) h e p ∙ old (sym (any_none (concludes n) h e r) ∙ d) ∙ sym (count_none (starts n) h e q)

-- a start or an end is of a node that isn't done
settled_fresh : (h : List Event) (n : ℕ) (e : Event) → concludes n e ≡ false → is_done h n ≡ false → IsSettled (h ++ e ∷ []) n
settled_fresh h n e r fresh d = absurd (true≢false (sym d ∙ any_none (concludes n) h e r ∙ fresh))

-- the end of a body between two commands settles it
settled_still : (s : Run) (h : List Event) (n : ℕ) (e : Event) → IsLegal s h → own settles n e ≡ false → starts n e ≡ false → is_done h n ≡ false → is_running h n ≡ false → IsSettled (h ++ e ∷ []) n
settled_still s h n e l p q fresh still d =
    omega (arith, count_none (own settles n) h e p, count_none (starts n) h e q, (settled s h n l).1 fresh, rests h n still fresh, (agrees s h n l).low)

-- so does a failed wait for its last child
settled_wait : (s : Run) (h : List Event) (n : ℕ) (e : Event) → IsLegal s h → own settles n e ≡ true → starts n e ≡ false → is_running h n ≡ true → IsSettled (h ++ e ∷ []) n
settled_wait s h n e l p q run d =
    let r = runs h n run in
    omega (arith, count_now (own settles n) h e p, count_none (starts n) h e q, (settled s h n l).1 r.1, r.0, (agrees s h n l).high)

-- a body that is done but by a failed wait settles nothing
no_settle : (n m : ℕ) (o : Outcome) → ((r : Reason) → o ≡ outcome.Failed r → IsNoWait r) → own settles n (event.Done m o) ≡ false
no_settle n m outcome.Well other = refl
no_settle n m (outcome.Failed (reason.Fault call.Wait)) other = absurd (other (reason.Fault call.Wait) refl)
no_settle n m (outcome.Failed _) other = refl

-- an end of a body keeps what is settled, by whether it is of the node
settled_done_at : (s : Run) (h : List Event) (n m : ℕ) (o : Outcome) (b : Bool) → (m == n) ≡ b → IsLegal s h → own settles n (event.Done m o) ≡ false → is_done h m ≡ false → is_running h m ≡ false → IsSettled h n → IsSettled (h ++ event.Done m o ∷ []) n
settled_done_at s h n m o true q l p fresh still old =
    settled_still s h n (event.Done m o) l p refl (subst (λ k. is_done h k ≡ false) (eqb-true m n q) fresh) (subst (λ k. is_running h k ≡ false) (eqb-true m n q) still)
settled_done_at s h n m o false q l p fresh still old = settled_as h n (event.Done m o) p refl q old

-- a failed wait keeps what is settled, by whether it is of the node
settled_wait_at : (s : Run) (h : List Event) (n m : ℕ) (b : Bool) → (m == n) ≡ b → IsLegal s h → is_running h m ≡ true → IsSettled h n → IsSettled (h ++ event.Done m (outcome.Failed (reason.Fault call.Wait)) ∷ []) n
settled_wait_at s h n m true q l run old =
    settled_wait s h n (event.Done m (outcome.Failed (reason.Fault call.Wait))) l q refl (subst (λ k. is_running h k ≡ true) (eqb-true m n q) run)
settled_wait_at s h n m false q l run old = settled_as h n (event.Done m (outcome.Failed (reason.Fault call.Wait))) q refl q old

-- a failure keeps what is settled
settled_failed : (s : Run) (h : List Event) (n m : ℕ) (r : Reason) → IsLegal s h → MayFailBy s h m r → IsSettled h n → IsSettled (h ++ event.Done m (outcome.Failed r) ∷ []) n
settled_failed s h n m (reason.Fault call.Wait) l may old = settled_wait_at s h n m (m == n) refl l may.1 old
settled_failed s h n m r l may old =
    settled_done_at s h n m (outcome.Failed r) (m == n) refl l refl (by_not_done s h m r may) (failing_still s h m r l tt may) old

-- a start or an end keeps what is settled, by whether it is of the node
settled_turn_at : (h : List Event) (n m : ℕ) (e : Event) (b : Bool) → (m == n) ≡ b → concludes n e ≡ false → is_done h m ≡ false → (b ≡ false → own settles n e ≡ false) → (b ≡ false → starts n e ≡ false) → IsSettled h n → IsSettled (h ++ e ∷ []) n
settled_turn_at h n m e true q c fresh p r old = settled_fresh h n e c (subst (λ k. is_done h k ≡ false) (eqb-true m n q) fresh)
settled_turn_at h n m e false q c fresh p r old = settled_as h n e (p refl) (r refl) c old

-- each event that may come keeps what is settled
settled_on : (s : Run) (n : ℕ) (h : List Event) (e : Event) → IsLegal s h → May s h e → IsSettled h n → IsSettled (h ++ e ∷ []) n
settled_on s n h (event.Started m i c) l may old = settled_turn_at h n m (event.Started m i c) (m == n) refl refl (inside h m may.0.0).not_done (λ _. refl) (λ q. q) old
settled_on s n h (event.Ended m i c t) l may old = settled_turn_at h n m (event.Ended m i c t) (m == n) refl refl (inside h m may.0.0).not_done (λ q. q) (λ _. refl) old
settled_on s n h (event.Done m outcome.Well) l may old = settled_done_at s h n m outcome.Well (m == n) refl l refl may.0.not_done may.0.between_commands old
settled_on s n h (event.Done m (outcome.Failed r)) l may old = settled_failed s h n m r l may old
settled_on s n h e l may old = settled_as h n e refl refl refl old

-- over a legal history each node that is done has as many settled children as it started
done_settled : (s : Run) (h : List Event) (n : ℕ) → IsLegal s h → IsSettled h n
done_settled s h n l = legal_holds s (λ k. IsSettled k n) (λ d. refl) (λ k e legal old m. settled_on s n k e legal m old) h l

-- ---- the number of running bodies

-- a node's starts are its settled children and the one that it runs with, by whether it is done
node_starts_at : (s : Run) (h : List Event) (n : ℕ) (done run : Bool) → IsLegal s h → is_done h n ≡ done → is_running h n ≡ run → count_by (own settles n) h + cond run 1 0 ≡ start_count h n
node_starts_at s h n true true l d r = absurd (true≢false (sym d ∙ (runs h n r).1))
node_starts_at s h n true false l d r = omega (arith, done_settled s h n l d)
node_starts_at s h n false true l d r = omega (arith, (settled s h n l).1 d, (runs h n r).0, (agrees s h n l).high)
node_starts_at s h n false false l d r = omega (arith, (settled s h n l).1 d, rests h n r d, (agrees s h n l).low)

-- a node's starts are its settled children and the one that it runs with
node_starts : (s : Run) (h : List Event) (n : ℕ) → IsLegal s h → count_by (own settles n) h + cond (is_running h n) 1 0 ≡ start_count h n
node_starts s h n l = node_starts_at s h n (is_done h n) (is_running h n) l refl refl

-- a settled child is no caught signal
settle_plain : (e : Event) → settles e ≡ true → catches e ≡ false
settle_plain (event.Caught g) q = absurd (cc)
settle_plain _ q = refl

-- nor is a start
start_plain : (e : Event) → is_start e ≡ true → catches e ≡ false
start_plain (event.Caught g) q = absurd (cc)
start_plain _ q = refl

-- a start of a node is one of it
own_start : (n : ℕ) (e : Event) → own is_start n e ≡ starts n e
own_start n (event.Started m i c) = refl
own_start n _ = refl

-- so the starts of a node are counted by either
own_starts : (n : ℕ) (h : List Event) → count_by (own is_start n) h ≡ start_count h n
own_starts n [] = refl
own_starts n (e ∷ h) = sum_by-cons (λ x. cond (own is_start n x) 1 0) e h ∙ ap₂ (λ a b. cond a 1 0 + b) (own_start n e) (own_starts n h) ∙ sym (sum_by-cons (λ x. cond (starts n x) 1 0) e h)

-- the commands that were started are those that were settled and those that run
pub all_balanced : (s : Run) (h : List Event) → IsFormed s → IsLegal s h → settle_count h + running_bodies s h ≡ all_starts h
all_balanced s h f l =
    let each = sum_same (λ n. count_by (own settles n) h + cond (is_running h n) 1 0) (λ n. count_by (own is_start n) h) 0 (length s.nodes) (λ k low high. node_starts s h k l ∙ sym (own_starts k h)) in
    let added = sum_add (λ n. count_by (own settles n) h) (λ n. cond (is_running h n) 1 0) (range_with_len 0 (length s.nodes)) in
    omega (arith, split s settles settle_plain h f l, split s is_start start_plain h f l, each, added)

-- where no node of the plan runs, no body is counted
none_running : (s : Run) (h : List Event) → ((n : ℕ) → n < length s.nodes → is_running h n ≡ false) → running_bodies s h ≡ 0
none_running s h none =
    sum_same (λ k. cond (is_running h k) 1 0) (λ k. 0) 0 (length s.nodes) (λ k low high. ap {B = ℕ} (λ b. cond b 1 0) (none k (omega (arith, high)))) ∙ sum_zero (length s.nodes) 0

-- where no body is counted, no node of the plan runs, by a test
none_counted_at : (s : Run) (h : List Event) (n : ℕ) (b : Bool) → is_running h n ≡ b → n < length s.nodes → running_bodies s h ≡ 0 → is_running h n ≡ false
none_counted_at s h n true q lt z =
    absurd (omega (arith, z, sum_lt (λ k. 0) (λ k. cond (is_running h k) 1 0) n 0 (length s.nodes) (λ k low high. omega arith) (omega arith) (omega (arith, lt)) (omega (arith, ap {B = ℕ} (λ b. cond b 1 0) q)), sum_zero (length s.nodes) 0))
none_counted_at s h n false q lt z = q

module _ {s : Start} {h : List Event} {now : Moment} {spare taken : ℕ} {caught : Option Signal} (account : ∥ IsAccount s h now spare taken caught ∥₁) where
  -- the commands that were started are those that were settled and those that run
  pub balanced : settle_count h + running_bodies (run_of s) h ≡ all_starts h
  balanced = ∥∥₁_elim s.plan.well (ℕ_set _ _) (λ f. ∥∥₁_elim account (ℕ_set _ _) (λ a. all_balanced (run_of s) h f a.kept.legal))

  -- so the units of the ledger are the running bodies
  pub units_are : (total : ℕ) → settle_count h + total ≡ all_starts h → total ≡ running_bodies (run_of s) h
  units_are total t = omega (arith, t, balanced)

  -- a node that runs is open
  pub running_open : (n : ℕ) → is_running h n ≡ true → is_open h n ≡ true
  running_open n r = ∥∥₁_elim account (Bool-set _ _) (λ a. (inside h n (running_inside (run_of s) h n a.kept.legal r)).is_open)

  -- a node that is none of the plan's runs nothing
  pub outside_still : (n : ℕ) → length s.plan.nodes ≤ n → is_running h n ≡ false
  outside_still n le =
      elim (is_running h n) as (λ b. is_running h n ≡ b → b ≡ false) [
        | true ↦ λ r. absurd (omega (arith, node_in account n (running_open n r), le))
        | false ↦ λ r. refl
      ] refl

  -- a node that runs has a last start
  pub running_last : (n : ℕ) → is_running h n ≡ true → last_start h n ≡ None → ⊥
  running_last n r none = ∥∥₁_elim account (λ x. absurd x) (λ a. let d = (agrees (run_of s) h n a.kept.legal).child (runs h n r).0 in cc (sym none ∙ d.1))

  -- where no unit is out, no body runs, by a test
  none_runs_at : (n : ℕ) (b : Bool) → is_running h n ≡ b → running_bodies (run_of s) h ≡ 0 → is_running h n ≡ false
  none_runs_at n true q z = none_counted_at (run_of s) h n true q (node_in account n (running_open n q)) z
  none_runs_at n false q z = q

  -- where no unit is out, no body runs
  pub none_runs : (n : ℕ) → running_bodies (run_of s) h ≡ 0 → is_running h n ≡ false
  none_runs n z = none_runs_at n (is_running h n) refl z

  -- fewer children were settled than started, so some node of the plan runs
  pub some_runs : settle_count h < all_starts h → ((n : ℕ) → n < length s.plan.nodes → is_running h n ≡ false) → ⊥
  some_runs lt none = omega (arith, lt, balanced, none_running (run_of s) h none)

  -- where no node of the plan runs with a child, none does
  pub stranger : (child : ℕ) → ((n : ℕ) → n < length s.plan.nodes → RunsWith h n child → ⊥) → IsStranger h child
  stranger child none n i r q = none n (node_in account n (running_open n r)) (record { opened = running_open n r; runs = r; place = i; started = q })

-- ---- open bodies as a history grows

-- each open body runs, where each but that of n did, and that of n does
pub each_grown : (old new : List Event) (n : ℕ) → GrowsOrCatches old new n → ((m : ℕ) → m ≢ n → is_open old m ≡ true → is_running old m ≡ true) → (is_open new n ≡ true → is_running new n ≡ true) → EachOpenRuns new
each_grown old new n g others here m =
    each_or (λ k. is_open new k ≡ true → is_running new k ≡ true) m n (m == n) refl (λ ne o. others_run old new n m g ne ∙ others m ne (sym (others_open old new n m g ne) ∙ o)) here

-- a body that rests isn't open
rests_each : (h : List Event) (n : ℕ) → Rests h n → is_open h n ≡ true → is_running h n ≡ true
rests_each h n r o = absurd (true≢false (sym o ∙ r.closed))

-- each open body runs behind a move
pub each_next : {X C D : Type 0} {g : Host.Ghosts X C D} {p : PathHost.Ghosts X} (r : Next X C D g p) (s : Run) (old new : List Event) (K : Idle → Type 0) → EachOpenRuns old
    → MatchNext r ((n : ℕ) × IsMove s old new n × Rests new n) (λ n c. IsMove s old new n × RunsWith new n c) (λ i. (new ≡ old) × K i) → EachOpenRuns new
each_next next.Moved s old new K each did = each_grown old new did.0 did.1.grows (λ m ne. each m) (rests_each new did.0 did.2)
each_next (next.Body body) s old new K each did = each_grown old new body.node did.0.grows (λ m ne. each m) (λ o. did.1.runs)
each_next (next.Idle i) s old new K each did = subst EachOpenRuns (sym did.0) each

-- each open body runs behind a turn of one
pub each_turn : {X C D : Type 0} {g : Host.Ghosts X C D} {p : PathHost.Ghosts X} (r : Next X C D g p) (old mid new : List Event) (n : ℕ) → EachOpenRuns old → GrowsBy old mid n → GrowsOrCatches mid new n
    → MatchNext r (Rests new n) (λ k c. (k ≡ n) × RunsWith new k c) (λ i. ⊥) → EachOpenRuns new
each_turn next.Moved old mid new n each p q did = each_grown old new n (grows_both (concerns n) old mid new (or_caught old mid n p) q) (λ m ne. each m) (rests_each new n did)
each_turn (next.Body body) old mid new n each p q did = each_grown old new n (grows_both (concerns n) old mid new (or_caught old mid n p) q) (λ m ne. each m) (λ o. subst (λ k. is_running new k ≡ true) did.0 did.1.runs)
each_turn (next.Idle i) old mid new n each p q did = absurd did

-- ---- nodes and children

-- the child of a start, if there is one
abbrev child_in : Option (ℕ × ℕ) → ℕ
child_in (Some x) = x.1
child_in None = 0

-- a node runs with one child
pub one_child : (h : List Event) (n a b : ℕ) → RunsWith h n a → RunsWith h n b → a ≡ b
one_child h n a b p q = ap child_in (sym p.started ∙ q.started)

-- where each open body runs and none is counted, none is open
module _ {s : Start} {h : List Event} {now : Moment} {spare taken : ℕ} {caught : Option Signal} (account : ∥ IsAccount s h now spare taken caught ∥₁) where
  -- by a test
  none_open_at : (n : ℕ) (b : Bool) → is_open h n ≡ b → EachOpenRuns h → running_bodies (run_of s) h ≡ 0 → is_open h n ≡ false
  none_open_at n true q each z = absurd (true≢false (sym (each n q) ∙ none_runs account n z))
  none_open_at n false q each z = q

  -- so none is open
  pub none_open : EachOpenRuns h → (n : ℕ) → running_bodies (run_of s) h ≡ 0 → is_open h n ≡ false
  none_open each n z = none_open_at n (is_open h n) refl each z

-- ---- the node of which an end is noted

-- the child that is settled is the one whose end was given, or no node runs with that one
pub own_or_stranger : (h : List Event) (own told number : ℕ) → number ≡ told → (own ≡ told) ⊎ IsStranger h told → (own ≡ number) ⊎ IsStranger h number
own_or_stranger h own told number e (inl q) = inl (q ∙ sym e)
own_or_stranger h own told number e (inr q) = inr (subst (IsStranger h) (sym e) q)
