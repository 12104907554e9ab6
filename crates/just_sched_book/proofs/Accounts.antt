-- What a book's account of its run gives, and how it goes on by one event.
use Rattle.std.proofs.Common.{◌≡◌, ◌==◌, Bool, ℕ, ◌+◌, ◌-◌, ◌^◌, ◌<◌, ◌≤◌, true, false, cond, List, [], ◌∷◌, ◌++◌, length, count_by, Option, Some, None, MatchOption, MatchBool, refl, ap, sym, ◌∙◌, subst, append_assoc, append-nil, arith, ◌&&◌, not}
use Rattle.std.specs.Coded.{coded_option, Coded-set}
use Rattle.std.specs.List.{list_any, range_with_len}
use Rattle.std.proofs.Math.Bool.{Bool-set}
use Rattle.std.proofs.Math.Bridge.{le_prop}
use Rattle.std.proofs.Math.Logic.{∥∥₁_map, ∥∥₁_elim}
use Rattle.std.proofs.Math.Nat.{ℕ_set}
use Rattle.std.proofs.lemmas.Bool.{eqb-true, eqb-false}
use Rattle.std.proofs.lemmas.List.Folds.{list_any-append}
use Rattle.std.proofs.lemmas.List.FromFn.{length-range_with_len}
use Rattle.std.proofs.lemmas.List.Sums.{count_by-le-length, sum_by-cons}
use Rattle.just_host_record.specs.contracts.signal.Signal as signal_contract
use Rattle.just_host_record.specs.declared.entry.Entry.{Entry}
use Rattle.just_host_record.specs.declared.signal.Signal.{Signal}
use Rattle.just_host_record.specs.Record.{children, is_failed}
use Rattle.just_host_record.specs.World.{Moment}
use Rattle.just_sched_history.specs.declared.event.Event.{Event}
use Rattle.just_sched_history.specs.declared.event.Event.TheVariants as event
use Rattle.just_sched_book.specs.Account.{IsAccount, taken_behind}
use Rattle.just_sched_history.specs.Cached.{is_cached, is_looked_at}
use Rattle.just_sched_history.specs.Legal.{Run, May, IsLegal, all_starts, open_bodies, in_body}
use Rattle.just_sched_history.specs.Effects.{Makes}
use Rattle.just_sched_history.specs.Match.{StandsFor}
use Rattle.just_sched_history.specs.Room.{slots, settles, settle_count, total_commands}
use Rattle.just_sched_history.specs.Start.{Start, IsKept, run_of}
use Rattle.just_sched_history.specs.State.{signal_in, has_taken, has_given, is_begun, is_confirmed, is_over, is_open, is_running, caught_signal}
use Rattle.just_sched_history.proofs.Counts.{over_still, running_inside, untaken}
use Rattle.just_sched_history.proofs.Due.{opened}
use Rattle.just_sched_history.proofs.EventRoom.{room, settle_room}
use Rattle.just_sched_history.proofs.Histories.{legal_more, matches_more}
use Rattle.just_sched_history.proofs.OneMore.{all_starts_more, settles_more, signal_stays}
use Rattle.just_sched_book.proofs.OpenBodies.{open_gave, open_stays, open_took}
use Rattle.just_sched_history.proofs.Order.{looked_before_begun, took_confirmed}
use Rattle.just_sched_history.proofs.PlanShape.{IsFormed}
use Rattle.just_sched_history.proofs.Range.{in_range}
use Rattle.just_sched_history.proofs.Stretch.{fresh_start}
use Rattle.just_sched_history.proofs.Tests.{neither, unless}
use Rattle.just_sched_history.proofs.Touching.{made_more}

-- ---- one event more

-- where nothing in two stretches failed, nothing in either did
none_failed : (es fs : List Entry) → list_any is_failed (es ++ fs) ≡ false → (list_any is_failed es ≡ false) × (list_any is_failed fs ≡ false)
none_failed es fs e = neither (list_any is_failed es) (list_any is_failed fs) (sym (list_any-append is_failed es fs) ∙ e)

-- a history that starts nothing started nothing before its last event
none_started : (h : List Event) (e : Event) → all_starts (h ++ e ∷ []) ≡ 0 → all_starts h ≡ 0
none_started h e z = omega (arith, all_starts_more h e)

-- a kept run goes on by an event, its entries, and what it makes of the world
kept_more : (s : Start) (h : List Event) (now : Moment) (fs : List Entry) (after : Moment) (e : Event) → IsKept s h now → after.entries ≡ now.entries ++ fs → May (run_of s) h e → StandsFor (run_of s) h e fs
    → (all_starts (h ++ e ∷ []) ≡ 0 → list_any is_failed fs ≡ false → Makes (run_of s) h e now.world after.world) → IsKept s (h ++ e ∷ []) after
kept_more s h now fs after e k gained may stands makes = record {
  legal = legal_more (run_of s) h e k.legal may;
  gained = k.gained ++ fs;
  grew = gained ∙ ap (λ x. x ++ fs) k.grew ∙ append_assoc s.told.entries k.gained fs;
  matches = matches_more (run_of s) h e k.gained fs k.matches stands;
  made = λ z none.
      let parts = none_failed k.gained fs none in
      made_more (run_of s) h e s.told.world now.world after.world (k.made (none_started h e z) parts.0) (makes z parts.1);
}

-- how many bodies are open behind an event
open_behind : (s : Run) (h : List Event) (e : Event) → IsFormed s → IsLegal s h → May s h e → open_bodies s (h ++ e ∷ []) ≡ taken_behind e (open_bodies s h)
open_behind s h (event.Took n) f l may = open_took s h n f l may
open_behind s h (event.Gave n) f l may = omega (arith, open_gave s h n f l may)
open_behind s h e f l may = open_stays s h e (λ n. refl) (λ n. refl)

-- a job is free, so one body more keeps the limit
one_more : (jobs : Option ℕ) (taken bodies : ℕ) → taken ≡ bodies → MatchOption jobs (Unit {0}) (λ j. bodies < j) → MatchOption jobs (Unit {0}) (λ j. taken + 1 ≤ j)
one_more None taken bodies e free = tt
one_more (Some j) taken bodies e free = omega arith

-- one body less keeps the limit
one_less : (jobs : Option ℕ) (taken : ℕ) → MatchOption jobs (Unit {0}) (λ j. taken ≤ j) → MatchOption jobs (Unit {0}) (λ j. taken - 1 ≤ j)
one_less None taken bound = tt
one_less (Some j) taken bound = omega arith

-- no more bodies are open than there are jobs
bound_behind : (s : Run) (h : List Event) (e : Event) (taken : ℕ) → taken ≡ open_bodies s h → May s h e → MatchOption s.jobs (Unit {0}) (λ j. taken ≤ j) → MatchOption s.jobs (Unit {0}) (λ j. taken_behind e taken ≤ j)
bound_behind s h (event.Took n) taken counted may bound = one_more s.jobs taken (open_bodies s h) counted may.2
bound_behind s h (event.Gave n) taken counted may bound = one_less s.jobs taken bound
bound_behind s h e taken counted may bound = bound

-- fewer bodies are open than a number of 32 bits holds
bodies_few : (s : Start) (h : List Event) → open_bodies (run_of s) h < 2 ^ 32
bodies_few s h = omega (arith, count_by-le-length (λ n. is_open h n) (range_with_len 0 (length s.plan.nodes)), length-range_with_len 0 (length s.plan.nodes), s.plan.few)

-- two proofs that two signals are equal are one
signals_set : IsSet (Option Signal)
signals_set = Coded-set (coded_option signal_contract.the_row.coded)

-- ---- what an account gives

module _ {s : Start} {h : List Event} {now : Moment} {spare taken : ℕ} {caught : Option Signal} (account : ∥ IsAccount s h now spare taken caught ∥₁) where
  -- the history is kept
  pub kept_of : ∥ IsKept s h now ∥₁
  kept_of = ∥∥₁_map account (λ a. a.kept)

  -- so many bodies are open
  pub counted_of : taken ≡ open_bodies (run_of s) h
  counted_of = ∥∥₁_elim account (ℕ_set _ _) (λ a. a.counted)

  pub counted_few : taken < 2 ^ 32
  counted_few = omega (arith, counted_of, bodies_few s h)

  bound_at : (j : ℕ) → s.jobs ≡ Some j → taken ≤ j
  bound_at j is = ∥∥₁_elim account le_prop (λ a. subst (λ o. MatchOption o (Unit {0}) (λ i. taken ≤ i)) is a.bound)

  bounded_by : (o : Option ℕ) → s.jobs ≡ o → MatchOption o (Unit {0}) (λ j. taken ≤ j)
  bounded_by None is = tt
  bounded_by (Some j) is = bound_at j is

  -- no more bodies are open than there are jobs
  pub bound_of : MatchOption s.jobs (Unit {0}) (λ j. taken ≤ j)
  bound_of = bounded_by s.jobs refl

  full_by : (j : ℕ) (b : Bool) → s.jobs ≡ Some j → (taken == j) ≡ b → MatchBool b (s.jobs ≡ Some (open_bodies (run_of s) h)) (MatchOption s.jobs (Unit {0}) (λ i. open_bodies (run_of s) h < i))
  full_by j true is same = is ∙ ap (λ n. Some n) (sym (eqb-true taken j same) ∙ counted_of)
  full_by j false is other =
      subst (λ o. MatchOption o (Unit {0}) (λ i. open_bodies (run_of s) h < i)) (sym is) (omega (arith, bound_at j is, counted_of, eqb-false taken j other))

  -- whether as many bodies are open as there are jobs, or fewer
  pub full_at : (j : ℕ) → s.jobs ≡ Some j → MatchBool (taken == j) (s.jobs ≡ Some (open_bodies (run_of s) h)) (MatchOption s.jobs (Unit {0}) (λ i. open_bodies (run_of s) h < i))
  full_at j is = full_by j (taken == j) is refl

  -- there is room for the end of each command to come
  pub spared_of : total_commands s.plan.nodes ≤ spare + settle_count h
  spared_of = ∥∥₁_elim account le_prop (λ a. a.spared)

  -- the signal is the one that was caught first
  pub signalled_of : caught ≡ caught_signal h
  signalled_of = ∥∥₁_elim account (signals_set _ _) (λ a. a.signalled)

  -- there is room for an event that may come
  pub room_for : (e : Event) → May (run_of s) h e → length h < slots s.plan.nodes
  room_for e may = ∥∥₁_elim s.plan.well le_prop (λ f. ∥∥₁_elim account le_prop (λ a. room (run_of s) h e f a.kept.legal may))

  -- and for the end of the command that a node runs
  pub settle_room_for : (n : ℕ) → is_running h n ≡ true → settle_count h < total_commands s.plan.nodes
  settle_room_for n r = ∥∥₁_elim s.plan.well le_prop (λ f. ∥∥₁_elim account le_prop (λ a. settle_room (run_of s) h n f a.kept.legal r))

  -- an open node is one of the plan
  pub node_in : (n : ℕ) → is_open h n ≡ true → n < length s.plan.nodes
  node_in n o = ∥∥₁_elim s.plan.well le_prop (λ f. ∥∥₁_elim account le_prop (λ a. in_range (run_of s) h n f a.kept.legal (opened h n o).0))

  pub not_given : (n : ℕ) → has_taken h n ≡ false → has_given h n ≡ false
  not_given n t = ∥∥₁_elim account (Bool-set _ _) (λ a. (untaken (run_of s) h n a.kept.legal t).gave)

  pub not_running : (n : ℕ) → has_taken h n ≡ false → is_running h n ≡ false
  not_running n t = ∥∥₁_elim account (Bool-set _ _) (λ a. (untaken (run_of s) h n a.kept.legal t).running)

  -- a node that took a job is confirmed
  pub took_sure : (n : ℕ) → has_taken h n ≡ true → is_confirmed s.plan.nodes h n ≡ true
  took_sure n t = ∥∥₁_elim account (Bool-set _ _) (λ a. took_confirmed (run_of s) h n a.kept.legal t)

  -- one that isn't took none, so its body isn't open
  pub unsure_free : (n : ℕ) → is_confirmed s.plan.nodes h n ≡ false → (has_taken h n ≡ false) × (is_open h n ≡ false)
  unsure_free n q =
      let t = unless (has_taken h n) (is_confirmed s.plan.nodes h n) (took_sure n) q in
      (t, ap (λ b. b && not (has_given h n)) t)

  -- a node that runs is in its body
  pub inside_running : (n : ℕ) → is_running h n ≡ true → in_body h n ≡ true
  inside_running n r = ∥∥₁_elim account (Bool-set _ _) (λ a. running_inside (run_of s) h n a.kept.legal r)

  -- the entry of a cached body that was begun was looked at
  pub looked_here : (n : ℕ) → is_cached s.plan.nodes n ≡ true → is_begun h n ≡ true → is_looked_at h n ≡ true
  looked_here n c b = ∥∥₁_elim account (Bool-set _ _) (λ a. looked_before_begun (run_of s) h n a.kept.legal c b)

  -- a body that is over runs nothing
  pub over_rests : (n : ℕ) → is_over h n ≡ true → is_running h n ≡ false
  over_rests n o = ∥∥₁_elim account (Bool-set _ _) (λ a. over_still (run_of s) h n a.kept.legal o)

  -- the number of the next child
  pub fresh_child : children now.entries ≡ children s.told.entries + all_starts h
  fresh_child = ∥∥₁_elim account (ℕ_set _ _) (λ a. ap children a.kept.grew ∙ fresh_start (run_of s) h s.told.entries a.kept.gained a.kept.matches)

  -- the account is right behind an event that may come, with the entries that the event stands for and the world that it makes
  pub noted : (later : List Event) (fs : List Entry) (after : Moment) (left : ℕ) (e : Event) → later ≡ h ++ e ∷ [] → after.entries ≡ now.entries ++ fs → May (run_of s) h e → StandsFor (run_of s) h e fs
      → (all_starts (h ++ e ∷ []) ≡ 0 → list_any is_failed fs ≡ false → Makes (run_of s) h e now.world after.world) → spare ≤ left + cond (settles e) 1 0 → signal_in e ≡ None
      → ∥ IsAccount s later after left (taken_behind e taken) caught ∥₁
  noted later fs after left e grew gained may stands makes room plain = subst (λ k. ∥ IsAccount s k after left (taken_behind e taken) caught ∥₁) (sym grew) (∥∥₁_map account (λ a. record {
    kept = kept_more s h now fs after e a.kept gained may stands makes;
    spared = omega (arith, a.spared, room, settles_more h e);
    counted = ap (taken_behind e) a.counted ∙ sym (∥∥₁_elim s.plan.well (ℕ_set _ _) (λ f. open_behind (run_of s) h e f a.kept.legal may));
    bound = bound_behind (run_of s) h e taken a.counted may a.bound;
    signalled = a.signalled ∙ sym (signal_stays h e plain);
  }))

  -- the same of an event that stands for no entries and leaves the world as it is
  pub noted_alone : (later : List Event) (e : Event) → later ≡ h ++ e ∷ [] → May (run_of s) h e → StandsFor (run_of s) h e [] → Makes (run_of s) h e now.world now.world → signal_in e ≡ None → ∥ IsAccount s later now spare (taken_behind e taken) caught ∥₁
  noted_alone later e grew may stands still plain = noted later [] now spare e grew (sym (append-nil now.entries)) may stands (λ _ _. still) (omega arith) plain

  -- some body is open where one may give its job back
  pub some_taken : (n : ℕ) → May (run_of s) h (event.Gave n) → 1 ≤ taken
  some_taken n may = ∥∥₁_elim s.plan.well le_prop (λ f. ∥∥₁_elim account le_prop (λ a. omega (arith, a.counted, open_gave (run_of s) h n f a.kept.legal may)))

-- ---- a book that was just opened

-- in no history is nothing open
none_open : (xs : List ℕ) → count_by (λ n. is_open [] n) xs ≡ 0
none_open [] = refl
none_open (x ∷ xs) = omega (arith, sum_by-cons (λ n. cond (is_open [] n) 1 0) x xs, none_open xs)

-- no open body keeps each limit
no_bound : (jobs : Option ℕ) → MatchOption jobs (Unit {0}) (λ j. 0 ≤ j)
no_bound None = tt
no_bound (Some j) = omega arith

-- a book of no events yet has a right account where the host has room for each command's end
pub account_none : (s : Start) (h : List Event) (now : Moment) (spare : ℕ) → h ≡ [] → now ≡ s.told → total_commands s.plan.nodes ≤ spare → ∥ IsAccount s h now spare 0 None ∥₁
account_none s h now spare none same enough = subst (λ k. ∥ IsAccount s k now spare 0 None ∥₁) (sym none) (∣ record {
  kept = record { legal = tt; gained = []; grew = ap (λ m. m.entries) same ∙ sym (append-nil s.told.entries); matches = refl; made = λ _ _. ap (λ m. m.world) same };
  spared = omega (arith, enough);
  counted = sym (none_open (range_with_len 0 (length s.plan.nodes)));
  bound = no_bound s.jobs;
  signalled = refl;
} ∣₁)
