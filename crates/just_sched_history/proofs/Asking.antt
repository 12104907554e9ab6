-- What is asked of nodes over a legal history, and what follows where a node is to be asked.
use Rattle.std.proofs.Common.{◌≡◌, ℕ, ◌<◌, ◌≤◌, ◌==◌, ◌&&◌, ◌||◌, not, ⊎_elim, Bool, true, false, true≢false, List, [], ◌∷◌, ◌++◌, length, append_assoc, arith, Option, Some, None, is_none, is_some, refl, ap, ap₂, sym, ◌∙◌, subst, eqb-true, eq-eqb}
use Rattle.std.specs.List.{list_any}
use Rattle.just_sched_history.specs.declared.event.Event.{Event}
use Rattle.just_sched_history.specs.declared.event.Event.TheVariants as event
use Rattle.just_sched_history.specs.declared.event.Outcome.{Outcome}
use Rattle.just_sched_history.specs.declared.event.Outcome.TheVariants as outcome
use Rattle.just_sched_history.specs.declared.event.Reason.TheVariants as reason
use Rattle.just_sched_history.specs.declared.plan_node.PlanNode.{PlanNode}
use Rattle.just_sched_history.specs.Legal.{Run, May, IsLegal}
use Rattle.just_sched_history.specs.Moves.{answer_events}
use Rattle.just_sched_history.specs.Nodes.{prompt_at}
use Rattle.just_sched_history.specs.Running.{EachNoIsDone}
use Rattle.just_sched_history.specs.State.{answers, asks, concludes, has_taken, is_asked, is_confirmed, is_done, is_running, IsToAsk, IsWanted}
use Rattle.just_sched_history.proofs.Counts.{untaken}
use Rattle.just_sched_history.proofs.Due.{asked_due}
use Rattle.just_sched_history.proofs.Finish.{asked_answer}
use Rattle.just_sched_history.proofs.Histories.{legal_holds}
use Rattle.just_sched_history.proofs.Order.{since, took_confirmed}
use Rattle.just_sched_history.proofs.Range.{answered_asked}
use Rattle.just_sched_history.proofs.Tests.{and_false, any_kept, any_none, any_now, neither, unless}

-- ---- a node has one answer

-- a node that wasn't asked has no answer
unanswered : (w : Bool) (h : List Event) (n : ℕ) → is_asked h n ≡ false → list_any (answers w n) h ≡ false
unanswered w h n q = unless (list_any (answers w n) h) (is_asked h n) (answered_asked w h n) q

-- a node that is answered by a no has no yes, behind one event more that asks, by its node
one_asked : (h : List Event) (n m : ℕ) (y b : Bool) → (m == n) ≡ b → is_asked h m ≡ false → (list_any (answers false n) h ≡ true → list_any (answers true n) h ≡ false)
    → list_any (answers false n) (h ++ event.Asked m y ∷ []) ≡ true → list_any (answers true n) (h ++ event.Asked m y ∷ []) ≡ false
one_asked h n m true true q fresh old a =
    let none = unanswered false h n (subst (λ k. is_asked h k ≡ false) (eqb-true m n q) fresh) in
    absurd (true≢false (sym a ∙ any_none (answers false n) h (event.Asked m true) (and_false (m == n)) ∙ none))
one_asked h n m false true q fresh old a =
    any_none (answers true n) h (event.Asked m false) (and_false (m == n)) ∙ unanswered true h n (subst (λ k. is_asked h k ≡ false) (eqb-true m n q) fresh)
one_asked h n m y false q fresh old a =
    any_none (answers true n) h (event.Asked m y) (ap (λ b. b && y) q) ∙ old (sym (any_none (answers false n) h (event.Asked m y) (ap (λ b. b && not y) q)) ∙ a)

-- the same behind each event that may come
one_step : (s : Run) (h : List Event) (n : ℕ) (e : Event) → May s h e → (list_any (answers false n) h ≡ true → list_any (answers true n) h ≡ false) → list_any (answers false n) (h ++ e ∷ []) ≡ true → list_any (answers true n) (h ++ e ∷ []) ≡ false
one_step s h n (event.Asked m y) may old a = one_asked h n m y (m == n) refl may.0.not_asked old a
one_step s h n e may old a = any_none (answers true n) h e refl ∙ old (sym (any_none (answers false n) h e refl) ∙ a)

-- over a legal history a node that is answered by a no has no yes
one_answer : (s : Run) (h : List Event) (n : ℕ) → IsLegal s h → list_any (answers false n) h ≡ true → list_any (answers true n) h ≡ false
one_answer s h n l =
    legal_holds s (λ k. list_any (answers false n) k ≡ true → list_any (answers true n) k ≡ false) (λ a. refl) (λ k e legal old m. one_step s k n e m old) h l

-- ---- nodes that aren't confirmed

-- what is there isn't none, and what isn't none is there
some_not_none : {A : Type 0} (o : Option A) → is_some o ≡ true → is_none o ≡ false
some_not_none (Some x) q = refl
some_not_none None q = absurd (cc)

not_none_some : {A : Type 0} (o : Option A) → is_none o ≡ false → is_some o ≡ true
not_none_some (Some x) q = refl
not_none_some None q = absurd (cc)

-- a node that was asked has a prompt
asked_prompted : (s : Run) (h : List Event) (n : ℕ) → IsLegal s h → is_asked h n ≡ true → is_some (prompt_at s.nodes n) ≡ true
asked_prompted s h n l = since s (asks n) (λ k. is_some (prompt_at s.nodes n) ≡ true) (λ k e p. p) (λ k e legal m q. (asked_due s k n e m q).prompted) h l

-- a node that is to be asked isn't confirmed
pub to_ask_unsure : (nodes : List PlanNode) (invocations : List ℕ) (h : List Event) (n : ℕ) → IsToAsk nodes invocations h n → is_confirmed nodes h n ≡ false
to_ask_unsure nodes invocations h n a = ap₂ (λ x y. x || y) (some_not_none (prompt_at nodes n) a.prompted) (unanswered true h n a.not_asked)

-- nor is one that is answered by a no
no_unsure : (s : Run) (h : List Event) (n : ℕ) → IsLegal s h → list_any (answers false n) h ≡ true → is_confirmed s.nodes h n ≡ false
no_unsure s h n l a = ap₂ (λ x y. x || y) (some_not_none (prompt_at s.nodes n) (asked_prompted s h n l (answered_asked false h n a))) (one_answer s h n l a)

-- a node that isn't confirmed took no job
pub unsure_untaken : (s : Run) (h : List Event) (n : ℕ) → IsLegal s h → is_confirmed s.nodes h n ≡ false → has_taken h n ≡ false
unsure_untaken s h n l q = unless (has_taken h n) (is_confirmed s.nodes h n) (took_confirmed s h n l) q

-- so it runs nothing: not one that is to be asked
pub to_ask_still : (s : Run) (h : List Event) (n : ℕ) → IsLegal s h → IsToAsk s.nodes s.invocations h n → is_running h n ≡ false
to_ask_still s h n l a = (untaken s h n l (unsure_untaken s h n l (to_ask_unsure s.nodes s.invocations h n a))).running

-- nor one that is answered by a no
pub no_still : (s : Run) (h : List Event) (n : ℕ) → IsLegal s h → list_any (answers false n) h ≡ true → is_running h n ≡ false
no_still s h n l a = (untaken s h n l (unsure_untaken s h n l (no_unsure s h n l a))).running

-- a node wasn't asked that has no yes and isn't done, where each no is done
not_asked_at : (h : List Event) (n : ℕ) (b : Bool) → is_asked h n ≡ b → EachNoIsDone h → list_any (answers true n) h ≡ false → is_done h n ≡ false → is_asked h n ≡ false
not_asked_at h n true q each none fresh =
    ⊎_elim (λ (said : list_any (answers true n) h ≡ true). absurd (true≢false (sym said ∙ none)))
    (λ (no_answer : list_any (answers false n) h ≡ true). absurd (true≢false (sym (each n no_answer) ∙ fresh)))
    (asked_answer h n q)
not_asked_at h n false q each none fresh = q

-- a wanted node is to be asked that isn't confirmed and isn't done, where each no is done
pub to_ask_by : (nodes : List PlanNode) (invocations : List ℕ) (h : List Event) (n : ℕ) → EachNoIsDone h → IsWanted nodes invocations h n → is_confirmed nodes h n ≡ false → is_done h n ≡ false → IsToAsk nodes invocations h n
to_ask_by nodes invocations h n each wanted unsure fresh =
    let parts = neither (is_none (prompt_at nodes n)) (list_any (answers true n) h) unsure in
    record { wanted = wanted; prompted = not_none_some (prompt_at nodes n) parts.0; not_asked = not_asked_at h n (is_asked h n) refl each parts.1 fresh; not_done = fresh }

-- ---- each node that is answered by a no is done

-- an event that is no answer keeps that
pub no_kept : (h later : List Event) (e : Event) → later ≡ h ++ e ∷ [] → ((n : ℕ) → answers false n e ≡ false) → EachNoIsDone h → EachNoIsDone later
no_kept h later e grew quiet each =
    subst EachNoIsDone (sym grew) (λ n a. any_kept (concludes n) h e (each n (sym (any_none (answers false n) h e (quiet n)) ∙ a)))

-- a no and the end of its node keep it, by the node
no_done_at : (h : List Event) (n k : ℕ) (o : Outcome) (b : Bool) → (n == k) ≡ b → EachNoIsDone h → list_any (answers false k) ((h ++ event.Asked n false ∷ []) ++ event.Done n o ∷ []) ≡ true → is_done ((h ++ event.Asked n false ∷ []) ++ event.Done n o ∷ []) k ≡ true
no_done_at h n k o true q each a = any_now (concludes k) (h ++ event.Asked n false ∷ []) (event.Done n o) q
no_done_at h n k o false q each a =
    any_kept (concludes k) (h ++ event.Asked n false ∷ []) (event.Done n o)
    (any_kept (concludes k) h (event.Asked n false)
    (each k (sym (any_none (answers false k) (h ++ event.Asked n false ∷ []) (event.Done n o) refl ∙ any_none (answers false k) h (event.Asked n false) (ap (λ b. b && true) q)) ∙ a)))

-- a no and the end of its node keep it
pub no_done : (h mid later : List Event) (n : ℕ) (o : Outcome) → mid ≡ h ++ event.Asked n false ∷ [] → later ≡ mid ++ event.Done n o ∷ [] → EachNoIsDone h → EachNoIsDone later
no_done h mid later n o first second each =
    subst EachNoIsDone (sym (second ∙ ap (λ k. k ++ event.Done n o ∷ []) first)) (λ k a. no_done_at h n k o (n == k) refl each a)

-- ---- a node behind its question

-- an answered node was asked
pub asked_now : (h later : List Event) (n : ℕ) (y : Bool) → later ≡ h ++ event.Asked n y ∷ [] → is_asked later n ≡ true
asked_now h later n y grew = ap (λ k. is_asked k n) grew ∙ any_now (asks n) h (event.Asked n y) (eq-eqb n n refl)

-- and was answered by that
pub answered_no : (h later : List Event) (n : ℕ) → later ≡ h ++ event.Asked n false ∷ [] → list_any (answers false n) later ≡ true
answered_no h later n grew = ap (λ k. list_any (answers false n) k) grew ∙ any_now (answers false n) h (event.Asked n false) (ap (λ b. b && true) (eq-eqb n n refl))

-- one test that passes is enough
pub either_true : (a b : Bool) → b ≡ true → (a || b) ≡ true
either_true true b q = refl
either_true false b q = q

pub first_true : (a b : Bool) → a ≡ true → (a || b) ≡ true
first_true a b q = ap (λ x. x || b) q

-- the first of two tests passes where one does and the second doesn't
pub first_passes : (a b : Bool) → b ≡ false → (a || b) ≡ true → a ≡ true
first_passes true b q e = refl
first_passes false b q e = absurd (cc)

-- a node that took a job or is done isn't to be asked, where those that took jobs are confirmed
pub left_not_asked : (nodes : List PlanNode) (invocations : List ℕ) (h : List Event) (left : ℕ) → ((m : ℕ) → m < left → (has_taken h m || is_done h m) ≡ true) → ((n : ℕ) → has_taken h n ≡ true → is_confirmed nodes h n ≡ true) → (n : ℕ) → n < left → IsToAsk nodes invocations h n → ⊥
left_not_asked nodes invocations h left before took n lt to_ask =
    true≢false (sym (took n (first_passes (has_taken h n) (is_done h n) to_ask.not_done (before n lt))) ∙ to_ask_unsure nodes invocations h n to_ask)

-- ---- the events of an answer

-- there is one at least, and two of a no
pub events_some : (n : ℕ) (y : Bool) → 1 ≤ length (answer_events n y)
events_some n true = omega arith
events_some n false = omega arith

pub events_two : (n : ℕ) (y : Bool) → y ≡ false → length (answer_events n y) ≡ 2
events_two n true q = absurd (true≢false q)
events_two n false q = refl

-- a yes is one event
pub events_yes : (h later : List Event) (n : ℕ) (y : Bool) → y ≡ true → later ≡ h ++ event.Asked n y ∷ [] → later ≡ h ++ answer_events n y
events_yes h later n true q grew = grew
events_yes h later n false q grew = absurd (true≢false (sym q))

-- a no is an event and the end of its node
pub events_no : (h mid later : List Event) (n : ℕ) (y : Bool) → y ≡ false → mid ≡ h ++ event.Asked n y ∷ [] → later ≡ mid ++ event.Done n (outcome.Failed reason.NotConfirmed) ∷ [] → later ≡ h ++ answer_events n y
events_no h mid later n true q first second = absurd (true≢false q)
events_no h mid later n false q first second =
    second ∙ ap (λ k. k ++ event.Done n (outcome.Failed reason.NotConfirmed) ∷ []) first ∙ append_assoc h (event.Asked n false ∷ []) (event.Done n (outcome.Failed reason.NotConfirmed) ∷ [])
