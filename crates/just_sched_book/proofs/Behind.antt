-- The states of a node behind an event that a book has noted.
use Rattle.std.proofs.Common.{◌≡◌, ℕ, ◌^◌, ◌<◌, ◌≤◌, ◌&&◌, ◌||◌, not, nat_lt, Bool, true, false, cond, List, [], ◌∷◌, ◌++◌, length, slice_get, All, count_by, Option, Some, None, refl, ap, sym, ◌∙◌, subst, arith, eq-eqb, le-ltb}
use Rattle.std.proofs.Math.Bool.{Bool-set}
use Rattle.std.proofs.Math.Bridge.{le_prop}
use Rattle.std.proofs.Math.Logic.{∥∥₁_elim}
use Rattle.std.proofs.lemmas.List.Sums.{sum_by-cons}
use Rattle.std.proofs.lemmas.Option.{slice_get_within, get_or_from_slice_get}
use Rattle.just_host_record.specs.declared.entry.Status.{Status}
use Rattle.just_host_record.specs.declared.signal.Signal.{Signal}
use Rattle.just_host_record.specs.World.{Moment}
use Rattle.just_sched_history.specs.declared.event.Event.{Event}
use Rattle.just_sched_history.specs.declared.event.Event.TheVariants as event
use Rattle.just_sched_history.specs.declared.event.Outcome.{Outcome}
use Rattle.just_sched_history.specs.declared.plan_node.PlanNode.{PlanNode}
use Rattle.just_sched_book.specs.Account.{IsAccount}
use Rattle.just_sched_history.specs.Legal.{Started, IsDue, is_start, all_starts, in_body}
use Rattle.just_sched_history.specs.Moves.{RunsWith}
use Rattle.just_sched_history.specs.Nodes.{work_in}
use Rattle.just_sched_history.specs.Start.{Start, run_of}
use Rattle.just_sched_history.specs.State.{takes, gives, begins, starts, ends, concludes, has_taken, has_given, is_begun, is_skipped, is_done, is_over, is_open, start_count, end_count, is_running}
use Rattle.just_exec_work.specs.Steps.{commands_of}
use Rattle.just_sched_history.proofs.Counts.{due_start, agrees}
use Rattle.just_sched_history.proofs.Due.{inside, is_opened, running_by, runs}
use Rattle.just_sched_history.proofs.OneMore.{all_starts_more, ends_more, in_body_stays, is_open_stays, last_started, running_stays, starts_more}
use Rattle.just_sched_history.proofs.Tests.{and_false, any_none, any_now, or_true}

-- a test that passes counts one
one_if : (b : Bool) → b ≡ true → ◌≡◌ {A = ℕ} (cond b 1 0) 1
one_if true e = refl
one_if false e = absurd (cc)

-- a node that just took a job is open
pub took_opens : (h later : List Event) (n : ℕ) → later ≡ h ++ event.Took n ∷ [] → has_given h n ≡ false → is_open later n ≡ true
took_opens h later n grew g =
    ap (λ k. is_open k n) grew ∙ is_opened (h ++ event.Took n ∷ []) n (any_now (takes n) h (event.Took n) (eq-eqb n n refl)) (any_none (gives n) h (event.Took n) refl ∙ g)

-- a node that just gave its job back isn't open
pub gave_closes : (h later : List Event) (n : ℕ) → later ≡ h ++ event.Gave n ∷ [] → is_open later n ≡ false
gave_closes h later n grew =
    ap (λ k. is_open k n) grew ∙ ap (λ b. has_taken (h ++ event.Gave n ∷ []) n && not b) (any_now (gives n) h (event.Gave n) (eq-eqb n n refl)) ∙ and_false _

-- ---- that a node's states stay

-- an event that takes and gives no job leaves the node as open as it was
pub open_as : (h later : List Event) (e : Event) (n : ℕ) → later ≡ h ++ e ∷ [] → takes n e ≡ false → gives n e ≡ false → is_open later n ≡ is_open h n
open_as h later e n grew t g = ap (λ k. is_open k n) grew ∙ is_open_stays h e n t g

-- an event that starts, ends and concludes nothing of the node leaves it running as it was
pub running_as : (h later : List Event) (e : Event) (n : ℕ) → later ≡ h ++ e ∷ [] → starts n e ≡ false → ends n e ≡ false → concludes n e ≡ false → is_running later n ≡ is_running h n
running_as h later e n grew a b d = ap (λ k. is_running k n) grew ∙ running_stays h e n a b d

-- a body that was just begun is in its middle, and runs nothing
pub begin_did : (h later : List Event) (n : ℕ) → later ≡ h ++ event.Begun n ∷ [] → in_body h n ≡ true → is_running h n ≡ false
    → (in_body later n ≡ true) × (is_begun later n ≡ true) × (is_running later n ≡ false)
begin_did h later n grew b still =
    let e = event.Begun n in (
      ap (λ k. in_body k n) grew ∙ in_body_stays h e n refl refl refl refl ∙ b,
      ap (λ k. is_begun k n) grew ∙ any_now (begins n) h e (eq-eqb n n refl),
      running_as h later e n grew refl refl refl ∙ still,
    )

-- a node that was just concluded is done
pub done_now : (h later : List Event) (n : ℕ) (o : Outcome) → later ≡ h ++ event.Done n o ∷ [] → is_done later n ≡ true
done_now h later n o grew = ap (λ k. is_done k n) grew ∙ any_now (concludes n) h (event.Done n o) (eq-eqb n n refl)

-- a node that is done runs nothing
pub done_rests : (h : List Event) (n : ℕ) → is_done h n ≡ true → is_running h n ≡ false
done_rests h n d = ap (λ b. nat_lt (end_count h n) (start_count h n) && not b) d ∙ and_false _

-- a body that is done is over
pub over_now : (h later : List Event) (n : ℕ) (o : Outcome) → later ≡ h ++ event.Done n o ∷ [] → is_over later n ≡ true
over_now h later n o grew = ap (λ b. is_skipped later n || b) (done_now h later n o grew) ∙ or_true (is_skipped later n)

-- ---- commands

-- the place of a command of a node fits 32 bits
fits_at : (nodes : List PlanNode) (n i : ℕ) (o : Option PlanNode) → slice_get nodes n ≡ o → All (λ x. length (commands_of x.work) < 2 ^ 32) nodes → i < length (commands_of (work_in o)) → i < 2 ^ 32
fits_at nodes n i None q all lt = absurd (omega (arith, lt))
fits_at nodes n i (Some x) q all lt =
    let few = subst (λ (y : PlanNode). length (commands_of y.work) < 2 ^ 32) (get_or_from_slice_get nodes n x x q) (all n x (slice_get_within nodes n x q)) in
    omega (arith, few, lt)

-- the place of a command that is due fits its type
pub place_fits : (s : Start) (h : List Event) (n i : ℕ) → IsDue (run_of s) h n (Started i) → i < 2 ^ 32
place_fits s h n i due = ∥∥₁_elim s.plan.short le_prop (λ all. fits_at s.plan.nodes n i (slice_get s.plan.nodes n) refl all (due_start (run_of s) h n i due).1)

module _ {s : Start} {h : List Event} {now : Moment} {spare taken : ℕ} {caught : Option Signal} (account : ∥ IsAccount s h now spare taken caught ∥₁) where
  -- a node that just started a command runs with its child
  pub started_runs : (later : List Event) (n i child : ℕ) → later ≡ h ++ event.Started n i child ∷ [] → in_body h n ≡ true → is_running h n ≡ false → RunsWith later n child
  started_runs later n i child grew b still =
      let e = event.Started n i child in
      let x = inside h n b in
      let more = starts_more h e n in
      let one = one_if (starts n e) (eq-eqb n n refl) in
      subst (λ k. RunsWith k n child) (sym grew) (record {
        opened = is_open_stays h e n refl refl ∙ x.is_open;
        runs = ∥∥₁_elim account (Bool-set _ _) (λ a. running_by (h ++ e ∷ []) n (omega (arith, more, one, ends_more h e n, (agrees (run_of s) h n a.kept.legal).low)) (any_none (concludes n) h e refl ∙ x.not_done));
        place = i;
        started = last_started h n i child;
      })

  -- a node whose command has just ended runs nothing
  pub ended_rests : (later : List Event) (n i child : ℕ) (t : Status) → later ≡ h ++ event.Ended n i child t ∷ [] → is_running later n ≡ false
  ended_rests later n i child t grew =
      let e = event.Ended n i child t in
      let one = one_if (ends n e) (eq-eqb n n refl) in
      ap (λ k. is_running k n) grew ∙ ∥∥₁_elim account (Bool-set _ _) (λ a.
      ap (λ b. b && not (is_done (h ++ e ∷ []) n)) (le-ltb (end_count (h ++ e ∷ []) n) (start_count (h ++ e ∷ []) n) (omega (arith, ends_more h e n, one, starts_more h e n, (agrees (run_of s) h n a.kept.legal).high))))

-- a weaker test counts no less
cond_le : (a b : Bool) → (a ≡ true → b ≡ true) → cond a 1 0 ≤ cond b 1 0
cond_le true b f = omega (arith, one_if b (f refl))
cond_le false b f = omega arith

-- a weaker test counts no fewer
count_le : {A : Type 0} (p q : A → Bool) → ((x : A) → p x ≡ true → q x ≡ true) → (xs : List A) → count_by p xs ≤ count_by q xs
count_le p q f [] = omega arith
count_le p q f (x ∷ xs) = omega (arith, sum_by-cons (λ y. cond (p y) 1 0) x xs, sum_by-cons (λ y. cond (q y) 1 0) x xs, cond_le (p x) (q x) (f x), count_le p q f xs)

-- a node's start is a start
started_start : (n : ℕ) (e : Event) → starts n e ≡ true → is_start e ≡ true
started_start n (event.Started m i c) q = refl
started_start n _ q = absurd (cc)

-- where a node runs, a child was started
pub running_started : (h : List Event) (e : Event) (n : ℕ) → is_running h n ≡ true → all_starts (h ++ e ∷ []) ≡ 0 → ⊥
running_started h e n r z = omega (arith, z, all_starts_more h e, count_le (starts n) is_start (started_start n) h, (runs h n r).0)
