-- What becomes of a book's account and of its history as a node is answered.
use Rattle.std.proofs.Common.{◌≡◌, ℕ, ◌+◌, ◌≤◌, ◌==◌, Bool, true, false, List, [], ◌∷◌, ◌++◌, length, length-append, append_assoc, Option, refl, ap, sym, ◌∙◌, arith, eq-eqb}
use Rattle.std.proofs.Math.Bridge.{le_prop}
use Rattle.std.proofs.Math.Logic.{∥∥₁_elim}
use Rattle.just_host_record.specs.declared.entry.Entry.{Entry}
use Rattle.just_host_record.specs.declared.signal.Signal.{Signal}
use Rattle.just_host_record.specs.World.{Moment}
use Rattle.just_sched_history.specs.declared.event.Event.{Event}
use Rattle.just_sched_history.specs.declared.event.Event.TheVariants as event
use Rattle.just_sched_history.specs.declared.event.Outcome.{Outcome}
use Rattle.just_sched_history.specs.declared.event.Outcome.TheVariants as outcome
use Rattle.just_sched_history.specs.declared.event.Reason.TheVariants as reason
use Rattle.just_sched_book.specs.Account.{IsAccount}
use Rattle.just_sched_history.specs.Legal.{May, all_starts}
use Rattle.just_sched_history.specs.Match.{StandsFor}
use Rattle.just_sched_history.specs.Moves.{GrowsBy, Rests, answer_events}
use Rattle.just_sched_history.specs.Room.{slots, settle_count}
use Rattle.just_sched_history.specs.Running.{EachNoIsDone}
use Rattle.just_sched_history.specs.Start.{Start, run_of}
use Rattle.just_sched_history.specs.State.{asks, concludes, has_caught, is_asked, is_open, is_running, IsToAsk}
use Rattle.just_sched_book.proofs.Accounts.{noted, noted_alone, not_running, room_for, unsure_free}
use Rattle.just_sched_history.proofs.Asking.{answered_no, asked_now, no_done, no_kept, to_ask_unsure}
use Rattle.just_sched_book.proofs.Behind.{done_now, done_rests}
use Rattle.just_sched_history.proofs.EventRoom.{room}
use Rattle.just_sched_history.proofs.Grows.{grows_one, grows_two}
use Rattle.just_sched_history.proofs.Histories.{legal_more}
use Rattle.just_sched_history.proofs.OneMore.{is_open_stays, running_stays}
use Rattle.just_sched_book.proofs.Tallies.{tally_more}
use Rattle.just_sched_history.proofs.Tests.{and_false, any_kept, any_none}

-- the end of a node that is answered by a no
abbrev refused : Outcome
refused = outcome.Failed reason.NotConfirmed

-- the events of a no, one behind the other
no_events : (h later : List Event) (n : ℕ) → later ≡ h ++ answer_events n false → later ≡ (h ++ event.Asked n false ∷ []) ++ event.Done n refused ∷ []
no_events h later n grew = grew ∙ sym (append_assoc h (event.Asked n false ∷ []) (event.Done n refused ∷ []))

module _ {s : Start} {h : List Event} {now : Moment} {spare taken : ℕ} {caught : Option Signal} (account : ∥ IsAccount s h now spare taken caught ∥₁)
    (n : ℕ) (to_ask : IsToAsk s.plan.nodes s.plan.invocations h n) (calm : has_caught h ≡ false) where
  -- a node that was answered by a no may be done by that
  refused_may : May (run_of s) (h ++ event.Asked n false ∷ []) (event.Done n refused)
  refused_may = (answered_no h (h ++ event.Asked n false ∷ []) n refl, any_none (concludes n) h (event.Asked n false) refl ∙ to_ask.not_done)

  -- there is room for the events of each answer
  pub answers_room : (y : Bool) → length h + length (answer_events n y) ≤ slots s.plan.nodes
  answers_room true = omega (arith, room_for account (event.Asked n true) (to_ask, calm))
  answers_room false = ∥∥₁_elim s.plan.well le_prop (λ f. ∥∥₁_elim account le_prop (λ a.
      let fits = room (run_of s) (h ++ event.Asked n false ∷ []) (event.Done n refused) f (legal_more (run_of s) h (event.Asked n false) a.kept.legal (to_ask, calm)) refused_may in
      omega (arith, fits, length-append h (event.Asked n false ∷ []))))

  -- the account is right behind them, with the entry that the answer stands for
  pub answered_account : (later : List Event) (fs : List Entry) (after : Moment) (left : ℕ) (y : Bool) → later ≡ h ++ answer_events n y → after.entries ≡ now.entries ++ fs → StandsFor (run_of s) h (event.Asked n y) fs → after.world ≡ now.world → spare ≤ left
      → ∥ IsAccount s later after left taken caught ∥₁
  answered_account later fs after left true grew gained stands same more =
      noted account later fs after left (event.Asked n true) grew gained (to_ask, calm) stands (λ _ _. same) (omega (arith, more)) refl
  answered_account later fs after left false grew gained stands same more =
      noted_alone (noted account (h ++ event.Asked n false ∷ []) fs after left (event.Asked n false) refl gained (to_ask, calm) stands (λ _ _. same) (omega (arith, more)) refl)
      later (event.Done n refused) (no_events h later n grew) refused_may refl refl refl

  -- the node took no job, so it isn't open, and runs nothing
  untaken_open : is_open h n ≡ false
  untaken_open = (unsure_free account n (to_ask_unsure s.plan.nodes s.plan.invocations h n to_ask)).1

  untaken_still : is_running h n ≡ false
  untaken_still = not_running account n (unsure_free account n (to_ask_unsure s.plan.nodes s.plan.invocations h n to_ask)).0

  -- it is so behind an answer
  pub answered_rests : (later : List Event) (y : Bool) → later ≡ h ++ answer_events n y → Rests later n
  answered_rests later true grew = record {
    closed = ap (λ k. is_open k n) grew ∙ is_open_stays h (event.Asked n true) n refl refl ∙ untaken_open;
    still = ap (λ k. is_running k n) grew ∙ running_stays h (event.Asked n true) n refl refl refl ∙ untaken_still;
  }
  answered_rests later false grew = record {
    closed = ap (λ k. is_open k n) (no_events h later n grew) ∙ is_open_stays (h ++ event.Asked n false ∷ []) (event.Done n refused) n refl refl ∙ is_open_stays h (event.Asked n false) n refl refl ∙ untaken_open;
    still = done_rests later n (done_now (h ++ event.Asked n false ∷ []) later n refused (no_events h later n grew));
  }

  -- and where it is done without one
  pub unasked_rests : (later : List Event) (o : Outcome) → later ≡ h ++ event.Done n o ∷ [] → Rests later n
  unasked_rests later o grew = record {
    closed = ap (λ k. is_open k n) grew ∙ is_open_stays h (event.Done n o) n refl refl ∙ untaken_open;
    still = done_rests later n (done_now h later n o grew);
  }

-- an answer is of the node alone
pub answers_grow : (h later : List Event) (n : ℕ) (y : Bool) → later ≡ h ++ answer_events n y → GrowsBy h later n
answers_grow h later n true grew = grows_one h later (event.Asked n true) n grew (eq-eqb n n refl)
answers_grow h later n false grew =
    grows_two h (h ++ event.Asked n false ∷ []) later n (grows_one h (h ++ event.Asked n false ∷ []) (event.Asked n false) n refl (eq-eqb n n refl))
    (grows_one (h ++ event.Asked n false ∷ []) later (event.Done n refused) n (no_events h later n grew) (eq-eqb n n refl))

-- by it the node was asked
pub answers_ask : (h later : List Event) (n : ℕ) (y : Bool) → later ≡ h ++ answer_events n y → is_asked later n ≡ true
answers_ask h later n true grew = asked_now h later n true grew
answers_ask h later n false grew =
    ap (λ k. is_asked k n) (no_events h later n grew) ∙ any_kept (asks n) (h ++ event.Asked n false ∷ []) (event.Done n refused) (asked_now h (h ++ event.Asked n false ∷ []) n false refl)

-- each node that is answered by a no is done
pub answers_done : (h later : List Event) (n : ℕ) (y : Bool) → later ≡ h ++ answer_events n y → EachNoIsDone h → EachNoIsDone later
answers_done h later n true grew each = no_kept h later (event.Asked n true) grew (λ k. and_false (n == k)) each
answers_done h later n false grew each = no_done h (h ++ event.Asked n false ∷ []) later n refused refl (no_events h later n grew) each

-- no child is started or settled
pub answers_tally : (h later : List Event) (n : ℕ) (y : Bool) (count : ℕ) → later ≡ h ++ answer_events n y → settle_count h + count ≡ all_starts h → settle_count later + count ≡ all_starts later
answers_tally h later n true count grew tally = tally_more h later (event.Asked n true) count count grew tally refl
answers_tally h later n false count grew tally =
    tally_more (h ++ event.Asked n false ∷ []) later (event.Done n refused) count count (no_events h later n grew) (tally_more h (h ++ event.Asked n false ∷ []) (event.Asked n false) count count refl tally refl) refl
