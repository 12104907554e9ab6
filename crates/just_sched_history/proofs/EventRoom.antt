-- A legal history has room for each event, and for the end of each command.
use Rattle.std.proofs.Common.{◌≡◌, ℕ, ◌+◌, ◌*◌, ◌<◌, ◌≤◌, ◌==◌, ◌&&◌, not, Bool, true, false, cond, List, [], ◌∷◌, ◌++◌, length, count_by, sum_by, refl, ap, ap₂, sym, ◌∙◌, subst, arith, eqb-true, length-append}
use Rattle.std.specs.List.{range_with_len}
use Rattle.std.proofs.lemmas.List.Sums.{sum_by-cons}
use Rattle.just_host_record.specs.declared.entry.Call.{Call}
use Rattle.just_host_record.specs.declared.entry.Call.TheVariants as call
use Rattle.just_host_record.specs.declared.entry.Status.{Status}
use Rattle.just_sched_history.specs.declared.event.Event.{Event}
use Rattle.just_sched_history.specs.declared.event.Event.TheVariants as event
use Rattle.just_sched_history.specs.declared.event.Outcome.TheVariants as outcome
use Rattle.just_sched_history.specs.declared.event.Reason.TheVariants as reason
use Rattle.just_sched_history.specs.declared.plan_node.PlanNode.{PlanNode}
use Rattle.just_exec_work.specs.Steps.{commands_of}
use Rattle.just_sched_history.specs.Nodes.{work_in, work_at}
use Rattle.just_sched_history.specs.State.{is_of, asks, takes, skips, begins, starts, ends, concludes, gives, catches, is_done, start_count, end_count, is_running}
use Rattle.just_sched_history.specs.Cached.{looks, saves}
use Rattle.just_sched_history.specs.Legal.{Run, Ended, IsDue, May, IsLegal}
use Rattle.just_sched_history.specs.Room.{slots, total_commands, settles, settle_count}
use Rattle.just_sched_history.proofs.Counts.{asked_once, begun_once, caught_once, ended_once, gave_once, looked_once, running_inside, agrees, saved_once, skipped_once, took_once}
use Rattle.just_sched_history.proofs.Due.{inside, runs}
use Rattle.just_sched_history.proofs.Histories.{legal_holds, legal_more}
use Rattle.just_sched_history.proofs.PlanShape.{IsFormed}
use Rattle.just_sched_history.proofs.Range.{event_range, in_range, number_of}
use Rattle.just_sched_history.proofs.Stretch.{started}
use Rattle.just_sched_history.proofs.Sums.{one_hot, sum_add, sum_le, sum_lt, sum_nodes, sum_same, sum_zero}
use Rattle.just_sched_history.proofs.Tests.{any_kept, any_now, count_more, count_none, count_now, not_true, unless}

-- ---- events by their nodes

-- an event of a node is one of its number
of_node : (n : ℕ) (e : Event) → catches e ≡ false → is_of n e ≡ (number_of e == n)
of_node n (event.Caught g) q = absurd (cc)
of_node n _ q = refl

-- an event of the kind f that is one of n
abbrev pub own : (Event → Bool) → ℕ → Event → Bool
own f n e = f e && is_of n e

-- one event more is counted by its node
split_step : (f : Event → Bool) (count : ℕ) (h : List Event) (e : Event) (b : Bool) → f e ≡ b → (f e ≡ true → catches e ≡ false) → (catches e ≡ false → number_of e < count) → count_by f h ≡ sum_by (λ n. count_by (own f n) h) (range_with_len 0 count) → count_by f (h ++ e ∷ []) ≡ sum_by (λ n. count_by (own f n) (h ++ e ∷ [])) (range_with_len 0 count)
split_step f count h e true q plain there old =
    let free = plain q in
    let each : (k : ℕ) → 0 ≤ k → k < 0 + count → count_by (own f k) (h ++ e ∷ []) ≡ count_by (own f k) h + cond (number_of e == k) 1 0 =
    λ k low high. count_more (own f k) h e ∙ ap₂ (λ x y. count_by (own f k) h + cond (x && y) 1 0) q (of_node k e free) in
    count_now f h e q
    ∙ ap₂ (λ x y. x + y) old (sym (one_hot (number_of e) 0 count (omega arith) (omega (arith, there free))))
    ∙ sym (sum_add (λ n. count_by (own f n) h) (λ k. cond (number_of e == k) 1 0) (range_with_len 0 count))
    ∙ sym (sum_same (λ n. count_by (own f n) (h ++ e ∷ [])) (λ n. count_by (own f n) h + cond (number_of e == n) 1 0) 0 count each)
split_step f count h e false q plain there old =
    count_none f h e q
    ∙ old
    ∙ sym (sum_same (λ n. count_by (own f n) (h ++ e ∷ [])) (λ n. count_by (own f n) h) 0 count (λ k low high. count_none (own f k) h e (ap (λ x. x && is_of k e) q)))

-- events that are no caught signals are counted by nodes
pub split : (s : Run) (f : Event → Bool) → ((e : Event) → f e ≡ true → catches e ≡ false) → (h : List Event) → IsFormed s → IsLegal s h → count_by f h ≡ sum_by (λ n. count_by (own f n) h) (range_with_len 0 (length s.nodes))
split s f plain h formed l =
    legal_holds s (λ k. count_by f k ≡ sum_by (λ n. count_by (own f n) k) (range_with_len 0 (length s.nodes)))
    (sym (sum_zero (length s.nodes) 0))
    (λ k e legal old m. split_step f (length s.nodes) k e (f e) refl (plain e) (event_range s k e formed legal m) old)
    h l

-- ---- room for each event

-- the room for events, by the number of nodes and of commands
pub slots_are : (nodes : List PlanNode) → slots nodes ≡ 8 * length nodes + 2 * total_commands nodes + 1
unfolding slots total_commands
slots_are [] = refl
slots_are (x ∷ nodes) =
    let e = slots_are nodes in
    omega (arith, e, sum_by-cons (λ y. 8 + 2 * length (commands_of y.work)) x nodes, sum_by-cons (λ y. length (commands_of y.work)) x nodes)

-- an event that isn't a caught signal
abbrev pub is_plain : Event → Bool
is_plain e = not (catches e)

-- a test or its converse passes once
either_one : (b : Bool) → cond b 1 0 + cond (not b) 1 0 ≡ 1
either_one true = refl
either_one false = refl

-- a list is counted by a test and its converse
either_count : {A : Type 0} (p : A → Bool) (h : List A) → length h ≡ count_by p h + count_by (λ e. not (p e)) h
either_count p [] = refl
either_count p (x ∷ h) =
    omega (arith, sum_by-cons (λ y. cond (p y) 1 0) x h, sum_by-cons (λ y. cond (not (p y)) 1 0) x h, either_count p h, either_one (p x))

-- a plain event of a node is one of ten kinds
kind_one : (s : Run) (h : List Event) (n : ℕ) (e : Event) → May s h e → cond (own is_plain n e) 1 0 ≤ cond (asks n e) 1 0 + cond (takes n e) 1 0 + cond (looks n e) 1 0 + cond (saves n e) 1 0 + cond (skips n e) 1 0 + cond (begins n e) 1 0 + cond (starts n e) 1 0 + cond (ends n e) 1 0 + cond (concludes n e) 1 0 + cond (gives n e) 1 0
kind_one s h n (event.Looked m sums seen) may = omega arith
kind_one s h n (event.Skipped m) may = omega arith
kind_one s h n (event.Saved m) may = omega arith
kind_one s h n (event.Asked m y) may = omega arith
kind_one s h n (event.Took m) may = omega arith
kind_one s h n (event.Begun m) may = omega arith
kind_one s h n (event.Started m i c) may = omega arith
kind_one s h n (event.Ended m i c t) may = omega arith
kind_one s h n (event.Done m o) may = omega arith
kind_one s h n (event.Gave m) may = omega arith
kind_one s h n (event.Caught g) may = omega arith

-- the plain events of a node are counted by their kinds
kinds : (s : Run) (h : List Event) (n : ℕ) → IsLegal s h → count_by (own is_plain n) h ≤ count_by (asks n) h + count_by (takes n) h + count_by (looks n) h + count_by (saves n) h + count_by (skips n) h + count_by (begins n) h + start_count h n + end_count h n + count_by (concludes n) h + count_by (gives n) h
kinds s h n l =
    legal_holds s (λ k. count_by (own is_plain n) k ≤ count_by (asks n) k + count_by (takes n) k + count_by (looks n) k + count_by (saves n) k + count_by (skips n) k + count_by (begins n) k + start_count k n + end_count k n + count_by (concludes n) k + count_by (gives n) k)
    (omega arith)
    (λ k e legal old m. omega (arith, kind_one s k n e m, old, count_more (own is_plain n) k e, count_more (asks n) k e, count_more (takes n) k e, count_more (looks n) k e, count_more (saves n) k e, count_more (skips n) k e, count_more (begins n) k e, count_more (starts n) k e, count_more (ends n) k e, count_more (concludes n) k e, count_more (gives n) k e))
    h l

-- how many events a node can have
node_bound : (s : Run) (h : List Event) (n : ℕ) → IsLegal s h → count_by (own is_plain n) h ≤ 8 + 2 * length (commands_of (work_at s.nodes n))
node_bound s h n l =
    let k = agrees s h n l in
    omega (arith, kinds s h n l, asked_once s h n l, took_once s h n l, looked_once s h n l, saved_once s h n l, skipped_once s h n l, begun_once s h n l, ended_once s h n l, gave_once s h n l, k.low, k.fits)

-- a legal history has no more events than the plan has room for
pub length_bound : (s : Run) (h : List Event) → IsFormed s → IsLegal s h → length h ≤ slots s.nodes
unfolding slots
length_bound s h f l =
    let each = sum_le (λ n. count_by (own is_plain n) h) (λ n. 8 + 2 * length (commands_of (work_at s.nodes n))) 0 (length s.nodes) (λ k low high. node_bound s h k l) in
    let all = sum_nodes (λ x. 8 + 2 * length (commands_of x.work)) (λ n. 8 + 2 * length (commands_of (work_at s.nodes n))) s.nodes 0 (λ k x q. subst (λ j. 8 + 2 * length (commands_of (work_at s.nodes j)) ≡ 8 + 2 * length (commands_of x.work)) (omega arith) (ap (λ o. 8 + 2 * length (commands_of (work_in o))) q)) in
    let cut = split s is_plain (λ e q. not_true (catches e) q) h f l in
    omega (arith, either_count catches h, caught_once s h l, each, all, cut)

-- there is room for each event that may come
pub room : (s : Run) (h : List Event) (e : Event) → IsFormed s → IsLegal s h → May s h e → length h < slots s.nodes
room s h e f l m = omega (arith, length_bound s (h ++ e ∷ []) f (legal_more s h e l m), length-append h (e ∷ []))

-- ---- settled children

-- what holds of the numbers of one node's settled children, its starts and its ends, where it is done or not
abbrev pub SettlesFitBy : ℕ → ℕ → ℕ → Bool → Type 0
SettlesFitBy settled started ended is_over = (settled ≤ started) × (is_over ≡ false → settled ≡ ended)

-- the settled children of a node fit its starts and ends
abbrev pub SettlesFit : Run → List Event → ℕ → Type 0
SettlesFit s h n = SettlesFitBy (count_by (own settles n) h) (start_count h n) (end_count h n) (is_done h n)

-- equal counts fit
settled_same : (a b c a' b' c' : ℕ) (d d' : Bool) → a' ≡ a → b ≤ b' → c' ≡ c → (d' ≡ false → d ≡ false) → SettlesFitBy a b c d → SettlesFitBy a' b' c' d'
settled_same a b c a' b' c' d d' p q r over old = (omega (arith, p, q, old.0), λ e. omega (arith, p, r, old.1 (over e)))

-- what isn't done behind an event wasn't done before it
not_later : (h : List Event) (n : ℕ) (e : Event) → is_done (h ++ e ∷ []) n ≡ false → is_done h n ≡ false
not_later h n e q = unless (is_done h n) (is_done (h ++ e ∷ []) n) (any_kept (concludes n) h e) q

-- an event that settles and ends nothing keeps the fit
settled_other : (s : Run) (h : List Event) (n : ℕ) (e : Event) → own settles n e ≡ false → ends n e ≡ false → SettlesFit s h n → SettlesFit s (h ++ e ∷ []) n
settled_other s h n e p q old =
    settled_same (count_by (own settles n) h) (start_count h n) (end_count h n) (count_by (own settles n) (h ++ e ∷ [])) (start_count (h ++ e ∷ []) n) (end_count (h ++ e ∷ []) n) (is_done h n) (is_done (h ++ e ∷ []) n)
    (count_none (own settles n) h e p) (omega (arith, count_more (starts n) h e)) (count_none (ends n) h e q) (not_later h n e) old

-- an end keeps the fit
settled_end : (s : Run) (h : List Event) (n m i c : ℕ) (t : Status) (b : Bool) → (m == n) ≡ b → IsDue s h m Ended → SettlesFit s h n → SettlesFit s (h ++ event.Ended m i c t ∷ []) n
settled_end s h n m i c t true q due old =
    let e = event.Ended m i c t in
    let r = runs h n (subst (λ k. is_running h k ≡ true) (eqb-true m n q) due.1) in
    (omega (arith, count_now (own settles n) h e q, count_none (starts n) h e refl, old.1 r.1, r.0), λ d. omega (arith, count_now (own settles n) h e q, count_now (ends n) h e q, old.1 r.1))
settled_end s h n m i c t false q due old = settled_other s h n (event.Ended m i c t) q q old

-- a failed wait keeps the fit
settled_wait : (s : Run) (h : List Event) (n m : ℕ) (b : Bool) → (m == n) ≡ b → IsDue s h m Ended → SettlesFit s h n → SettlesFit s (h ++ event.Done m (outcome.Failed (reason.Fault call.Wait)) ∷ []) n
settled_wait s h n m true q due old =
    let e = event.Done m (outcome.Failed (reason.Fault call.Wait)) in
    let r = runs h n (subst (λ k. is_running h k ≡ true) (eqb-true m n q) due.1) in
    (omega (arith, count_now (own settles n) h e q, count_none (starts n) h e refl, old.1 r.1, r.0), λ d. absurd (cc (d, any_now (concludes n) h e q)))
settled_wait s h n m false q due old = settled_other s h n (event.Done m (outcome.Failed (reason.Fault call.Wait))) q refl old

-- a failed call keeps the fit
settled_fault : (s : Run) (h : List Event) (n m : ℕ) (c : Call) → May s h (event.Done m (outcome.Failed (reason.Fault c))) → SettlesFit s h n → SettlesFit s (h ++ event.Done m (outcome.Failed (reason.Fault c)) ∷ []) n
settled_fault s h n m call.Wait may old = settled_wait s h n m (m == n) refl may old
settled_fault s h n m c may old = settled_other s h n (event.Done m (outcome.Failed (reason.Fault c))) refl refl old

-- each event that may come keeps the fit
settled_step : (s : Run) (n : ℕ) (h : List Event) (e : Event) → May s h e → SettlesFit s h n → SettlesFit s (h ++ e ∷ []) n
settled_step s n h (event.Ended m i c t) may old = settled_end s h n m i c t (m == n) refl may.0 old
settled_step s n h (event.Done m (outcome.Failed (reason.Fault c))) may old = settled_fault s h n m c may old
settled_step s n h e may old = settled_other s h n e refl refl old

-- over a legal history the settled children fit
pub settled : (s : Run) (h : List Event) (n : ℕ) → IsLegal s h → SettlesFit s h n
settled s h n l = legal_holds s (λ k. SettlesFit s k n) (omega arith, λ d. refl) (λ k e legal old m. settled_step s n k e m old) h l

-- a caught signal settles nothing
settle_plain : (e : Event) → settles e ≡ true → catches e ≡ false
settle_plain (event.Caught g) q = absurd (cc)
settle_plain _ q = refl

-- the commands of the nodes, summed by numbers, are all commands
total_is : (nodes : List PlanNode) → sum_by (λ n. length (commands_of (work_at nodes n))) (range_with_len 0 (length nodes)) ≡ total_commands nodes
unfolding total_commands
total_is nodes =
    sum_nodes (λ x. length (commands_of x.work)) (λ n. length (commands_of (work_at nodes n))) nodes 0 (λ k x q. subst (λ j. length (commands_of (work_at nodes j)) ≡ length (commands_of x.work)) (omega arith) (ap (λ o. length (commands_of (work_in o))) q))

-- no more children of a node are settled than it has commands
settled_fits : (s : Run) (h : List Event) (n : ℕ) → IsLegal s h → count_by (own settles n) h ≤ length (commands_of (work_at s.nodes n))
settled_fits s h n l = omega (arith, (settled s h n l).0, (agrees s h n l).fits)

-- while a node runs, fewer children were settled than there are commands
pub settle_room : (s : Run) (h : List Event) (n : ℕ) → IsFormed s → IsLegal s h → is_running h n ≡ true → settle_count h < total_commands s.nodes
settle_room s h n f l r =
    let within = in_range s h n f l (inside h n (running_inside s h n l r)).took in
    let here = runs h n r in
    let less : count_by (own settles n) h < length (commands_of (work_at s.nodes n)) = omega (arith, (settled s h n l).1 here.1, here.0, (agrees s h n l).fits) in
    let all = sum_lt (λ k. count_by (own settles k) h) (λ k. length (commands_of (work_at s.nodes k))) n 0 (length s.nodes) (λ k low high. settled_fits s h k l) (omega arith) (omega (arith, within)) less in
    omega (arith, all, split s settles settle_plain h f l, total_is s.nodes)
