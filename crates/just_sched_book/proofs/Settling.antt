-- What a host answers to an end that is noted: the entry and the answer agree.
use Rattle.std.proofs.Common.{◌≡◌, ℕ, ◌==◌, ◌⊎◌, inl, inr, Bool, true, false, if◌then◌else◌, List, [], ◌∷◌, Option, Some, None, Ok, Err, refl, ap, sym, eq-eqb}
use Rattle.just_host_record.specs.declared.entry.Call.TheVariants as call
use Rattle.just_host_record.specs.declared.entry.Entry.TheVariants as entry
use Rattle.just_host_record.specs.declared.entry.HostFault.{HostFault}
use Rattle.just_host_record.specs.declared.entry.HostFault.TheVariants as fault
use Rattle.just_host_record.specs.declared.entry.Status.{Status}
use Rattle.just_host_record.specs.Record.{ended_entry, ended_answer, settled_entry, settled_answer}
use Rattle.just_sched_history.specs.declared.event.Event.{Event}
use Rattle.just_sched_history.specs.Legal.{Run}
use Rattle.just_sched_history.specs.Match.{IsStranger, FaultStandsFor}
use Rattle.just_sched_history.specs.State.{last_start}

-- an answered status is the entry's
ended_ok : (child : ℕ) (w : Option Status) (t : Status) → Ok t ≡ ended_answer w → ended_entry child w ≡ entry.Ended child t
ended_ok child (Some u) t e = ap (λ k. entry.Ended child k) (sym (cc))
ended_ok child None t e = absurd (cc)

-- an unanswered end is a failed wait
ended_err : (child : ℕ) (w : Option Status) (x : HostFault) → Err x ≡ ended_answer w → ended_entry child w ≡ entry.Failed call.Wait
ended_err child (Some u) x e = absurd (cc)
ended_err child None x e = refl

-- where a status was answered, by a test
settled_ok_at : (b : Bool) (child number : ℕ) (w : Option Status) (t : Status) → Ok t ≡ (if b then ended_answer w else Err (fault.Failed call.Wait)) → (if b then ended_entry child w else entry.Strayed child number) ∷ [] ≡ entry.Ended child t ∷ []
settled_ok_at true child number w t e = ap (λ x. x ∷ []) (ended_ok child w t e)
settled_ok_at false child number w t e = absurd (cc)

-- where a status was answered, the entry is that end
pub settled_ok : (child number : ℕ) (w : Option Status) (t : Status) → Ok t ≡ settled_answer child number w → settled_entry child number w ∷ [] ≡ entry.Ended child t ∷ []
settled_ok child number w t e = settled_ok_at (number == child) child number w t e

-- where none was answered, by a test
settled_err_at : (s : Run) (h : List Event) (n place child number : ℕ) (w : Option Status) (x : HostFault) (b : Bool) → (number == child) ≡ b → last_start h n ≡ Some (place, child) → (child ≡ number) ⊎ IsStranger h number
    → Err x ≡ (if b then ended_answer w else Err (fault.Failed call.Wait)) → FaultStandsFor s h n call.Wait ((if b then ended_entry child w else entry.Strayed child number) ∷ [])
settled_err_at s h n place child number w x true q last own e = inl (ap (λ y. y ∷ []) (ended_err child w x e))
settled_err_at s h n place child number w x false q last (inl own) e = absurd (cc (eq-eqb number child (sym own), q))
settled_err_at s h n place child number w x false q last (inr own) e = inr (place, child, number, last, own, refl)

-- where none was answered, the entry is a failed wait, or the end of a child that no node runs with
pub settled_err : (s : Run) (h : List Event) (n place child number : ℕ) (w : Option Status) (x : HostFault) → last_start h n ≡ Some (place, child) → (child ≡ number) ⊎ IsStranger h number → Err x ≡ settled_answer child number w
    → FaultStandsFor s h n call.Wait (settled_entry child number w ∷ [])
settled_err s h n place child number w x last own e = settled_err_at s h n place child number w x (number == child) refl last own e
