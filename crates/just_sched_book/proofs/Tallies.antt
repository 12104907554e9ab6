-- How the count of running bodies goes on with the history: a start adds one, a settled child takes one away.
use Rattle.std.proofs.Common.{◌≡◌, ℕ, ◌+◌, inl, inr, false, cond, List, [], ◌∷◌, ◌++◌, Err, refl, ap, sym, ◌∙◌, subst, arith}
use Rattle.just_host_record.specs.declared.entry.Call.{Call}
use Rattle.just_host_record.specs.declared.entry.Call.TheVariants as call
use Rattle.just_host_record.specs.declared.entry.Entry.{Entry}
use Rattle.just_sched_history.specs.declared.event.Event.{Event}
use Rattle.just_sched_history.specs.declared.event.Event.TheVariants as event
use Rattle.just_sched_history.specs.declared.event.Outcome.{Outcome}
use Rattle.just_sched_history.specs.declared.event.Outcome.TheVariants as outcome
use Rattle.just_sched_history.specs.declared.event.Reason.{Reason}
use Rattle.just_sched_history.specs.declared.event.Reason.TheVariants as reason
use Rattle.just_exec_work.specs.declared.work.Command.{Command}
use Rattle.just_sched_history.specs.declared.cache_plan.CachePlan.{CachePlan}
use Rattle.just_sched_book.specs.Gains.{TellGains, AskGains, StartGains, LookRefusal, SaveGains}
use Rattle.just_sched_history.specs.Legal.{Run, is_start, all_starts}
use Rattle.just_sched_history.specs.Match.{StandsFor}
use Rattle.just_sched_history.specs.Room.{settles, settle_count}
use Rattle.just_sched_history.proofs.OneMore.{all_starts_more, settles_more}

-- the count of running bodies behind an event
pub tally_more : (h later : List Event) (e : Event) (count left : ℕ) → later ≡ h ++ e ∷ [] → settle_count h + count ≡ all_starts h → left + cond (settles e) 1 0 ≡ count + cond (is_start e) 1 0 → settle_count later + left ≡ all_starts later
tally_more h later e count left grew tally step = subst (λ k. settle_count k + left ≡ all_starts k) (sym grew) (omega (arith, tally, step, settles_more h e, all_starts_more h e))

-- the end of a body settles a child or doesn't, and starts none
pub tally_done : (h later : List Event) (n : ℕ) (o : Outcome) (count : ℕ) → later ≡ h ++ event.Done n o ∷ [] → settles (event.Done n o) ≡ false → settle_count h + count ≡ all_starts h → settle_count later + count ≡ all_starts later
tally_done h later n o count grew q tally = tally_more h later (event.Done n o) count count grew tally (subst (λ b. count + cond b 1 0 ≡ count + 0) (sym q) refl)

-- an end that stands for no entries settles no child
pub silent_end : (s : Run) (h : List Event) (n : ℕ) (o : Outcome) → StandsFor s h (event.Done n o) [] → settles (event.Done n o) ≡ false
silent_end s h n outcome.Well stands = refl
silent_end s h n (outcome.Failed (reason.Fault call.Wait)) (inl stands) = absurd (cc)
silent_end s h n (outcome.Failed (reason.Fault call.Wait)) (inr stands) = let e = stands.5 in absurd (cc)
silent_end s h n (outcome.Failed _) stands = refl

-- nor does an end by the failure of a call that is none of waiting
fault_end : (n : ℕ) (c made : Call) → c ≡ made → settles (event.Done n (outcome.Failed (reason.Fault made))) ≡ false → settles (event.Done n (outcome.Failed (reason.Fault c))) ≡ false
fault_end n c made same other = ap (λ k. settles (event.Done n (outcome.Failed (reason.Fault k)))) same ∙ other

-- nor does the end of a body whose banner couldn't be printed
pub told_end : (A : Type 0) (text : List ℕ) (n : ℕ) (r : Reason) (es : List Entry) → TellGains {A = A} text (Err r) es → settles (event.Done n (outcome.Failed r)) ≡ false
told_end A text n (reason.Fault c) es g = fault_end n c call.Print g.1.0 refl
told_end A text n _ es g = refl

-- nor does that of a body whose command couldn't be started
pub unstarted_end : {C : Type 0} (number : C → ℕ) (c : Command) (n : ℕ) (r : Reason) (es : List Entry) → StartGains number c (Err r) es → settles (event.Done n (outcome.Failed r)) ≡ false
unstarted_end number c n (reason.Fault k) es (inl g) = fault_end n k call.Print g.1.0 refl
unstarted_end number c n (reason.Fault k) es (inr (later, are, inl g)) = fault_end n k call.Start g.0 refl
unstarted_end number c n (reason.Fault k) es (inr (later, are, inr g)) = fault_end n k call.Temp g.0 refl
unstarted_end number c n _ es g = refl

-- nor does that of a body whose cache couldn't be looked at, or whose entry couldn't be saved
pub unlooked_end : (c : CachePlan) (n : ℕ) (r : Reason) (es : List Entry) → LookRefusal c r es → settles (event.Done n (outcome.Failed r)) ≡ false
unlooked_end c n (reason.Fault k) es (inl (inl g)) = absurd (cc g.0)
unlooked_end c n (reason.Fault k) es (inl (inr g)) = fault_end n k call.Sum g.4.0 refl
unlooked_end c n (reason.Fault k) es (inr g) = fault_end n k call.Probe g.4.0 refl
unlooked_end c n _ es g = refl

pub unsaved_end : (c : CachePlan) (sums : List (List ℕ)) (n : ℕ) (r : Reason) (es : List Entry) → SaveGains c sums (Err r) es → settles (event.Done n (outcome.Failed r)) ≡ false
unsaved_end c sums n (reason.Fault k) es (inl g) = fault_end n k call.Check g.0 refl
unsaved_end c sums n (reason.Fault k) es (inr g) = fault_end n k call.Save g.2.0 refl
unsaved_end c sums n _ es g = refl

-- nor does that of a node that couldn't be asked
pub unasked_end : (prompt : List ℕ) (n : ℕ) (r : Reason) (es : List Entry) → AskGains prompt (Err r) es → settles (event.Done n (outcome.Failed r)) ≡ false
unasked_end prompt n (reason.Fault c) es g = fault_end n c call.Ask g.0 refl
unasked_end prompt n _ es g = refl
