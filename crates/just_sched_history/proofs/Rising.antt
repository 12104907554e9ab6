-- What is kept as a node is finished, and then the one of whose subsequents it is the last.
use Rattle.std.proofs.Common.{◌≡◌, ℕ, ◌<◌, ◌⊎◌, inl, inr, ⊎_elim, Bool, true, false, List, length, set, get_or-set_same, refl, sym, ◌∙◌, ap, subst, arith}
use Rattle.std.specs.Prelude.{slice_index, Contains, Option, Some, None}
use Rattle.just_sched_history.specs.declared.event.Event.{Event}
use Rattle.just_sched_history.specs.declared.plan_node.PlanNode.{PlanNode}
use Rattle.just_sched_history.specs.declared.progress.Progress.{Progress}
use Rattle.just_sched_history.specs.Nodes.{priors_at, subsequents_at, parallel_at}
use Rattle.just_sched_history.specs.State.{IsFinished, finished}
use Rattle.just_sched_history.specs.Tables.{flag}
use Rattle.just_sched_history.specs.Led.{IsRaised, IsLed, ArePriorsLed, AllFinished, AllConfirmed, KeepsWanted}
use Rattle.just_sched_history.specs.Progress.{IsClosedBut, IsTold}
use Rattle.just_sched_history.proofs.Closing.{flag_kept, flag_other, led_finished, led_either}
use Rattle.just_sched_history.proofs.Led.{same_or, led_on}
use Rattle.just_sched_history.proofs.PlanLaws.{contains_at}

-- two numbers that are there are one
some_is : (a b : ℕ) → Some a ≡ Some b → a ≡ b
some_is a b e = cc

module _ (nodes : List PlanNode) (invocations : List ℕ) (p0 p1 : Progress) (at : ℕ) (closed : IsClosedBut nodes invocations p0 (Some at))
    (over_is : p1.over.items ≡ p0.over.items) (finished_is : p1.finished.items ≡ p0.finished.items) (confirmed_is : p1.confirmed.items ≡ p0.confirmed.items)
    (raised : IsRaised p0.wanted.items p1.wanted.items p0.pending.items p1.pending.items)
    (led : IsLed p1.finished.items p1.wanted.items false (subsequents_at nodes at)) where
  led_over : (together : Bool) (xs : List ℕ) → IsLed p0.finished.items p0.wanted.items together xs → IsLed p1.finished.items p1.wanted.items together xs
  led_over together xs l = led_on p1.finished.items p0.wanted.items p1.wanted.items together xs raised.keeps (subst (λ f. IsLed f p0.wanted.items together xs) (sym finished_is) l)

  over_before : (m : ℕ) → flag p1.over.items m ≡ true → flag p0.over.items m ≡ true
  over_before m up = subst (λ xs. flag xs m ≡ true) over_is up

  invocations_led : IsLed p1.finished.items p1.wanted.items false invocations
  invocations_led = led_over false invocations closed.invoked

  subsequents_led : (m : ℕ) → flag p1.over.items m ≡ true → IsLed p1.finished.items p1.wanted.items (parallel_at nodes m) (subsequents_at nodes m)
  subsequents_led m up =
      ⊎_elim
      (λ (same : m ≡ at).
      subst (λ i. IsLed p1.finished.items p1.wanted.items (parallel_at nodes i) (subsequents_at nodes i)) (sym same)
      (led_either p1.finished.items p1.wanted.items (parallel_at nodes at) (subsequents_at nodes at) (λ all. led_over true (subsequents_at nodes at) (closed.together at refl all)) led))
      (λ (other : m ≡ at → ⊥). led_over (parallel_at nodes m) (subsequents_at nodes m) (closed.subsequents m (λ e. other (sym (some_is at m e))) (over_before m up)))
      (same_or m at)

  pub priors_led : ArePriorsLed (parallel_at nodes) (priors_at nodes) p1.finished.items p1.confirmed.items p1.wanted.items p1.pending.items
  priors_led m up sure =
      ⊎_elim
      (λ (before : flag p0.wanted.items m ≡ true).
      ⊎_elim (λ (listed : Contains p0.pending.items m). inl (raised.listed m listed))
      (λ (l : IsLed p0.finished.items p0.wanted.items (parallel_at nodes m) (priors_at nodes m)). inr (led_over (parallel_at nodes m) (priors_at nodes m) l))
      (closed.priors m before (subst (λ xs. flag xs m ≡ true) confirmed_is sure)))
      (λ (listed : Contains p1.pending.items m). inl listed)
      (raised.noted m up)

  finished_other : (k : ℕ) → k < length nodes → (k ≡ at → ⊥) → flag p1.over.items k ≡ true → ((q : ℕ) → Contains (subsequents_at nodes k) q → flag p1.finished.items q ≡ true) → flag p1.finished.items k ≡ true
  finished_other k lt other up all =
      subst (λ xs. flag xs k ≡ true) (sym finished_is)
      (closed.finished k lt (λ e. other (sym (some_is at k e))) (over_before k up) (λ q c. subst (λ xs. flag xs q ≡ true) finished_is (all q c)))

  -- where the node isn't finished by it, or was, no node is left
  pub closed_here : (((q : ℕ) → Contains (subsequents_at nodes at) q → flag p1.finished.items q ≡ true) → flag p1.finished.items at ≡ true) → IsClosedBut nodes invocations p1 None
  closed_here here = record {
    finished = λ k lt _ up all.
        ⊎_elim
        (λ (same : k ≡ at). subst (λ i. flag p1.finished.items i ≡ true) (sym same) (here (subst (λ i. (q : ℕ) → Contains (subsequents_at nodes i) q → flag p1.finished.items q ≡ true) same all)))
        (λ (other : k ≡ at → ⊥). finished_other k lt other up all)
        (same_or k at);
    invoked = invocations_led;
    subsequents = λ m _ up. subsequents_led m up;
    over = λ m e. absurd (let no_way : None ≡ Some m = e in cc);
    together = λ m e all. absurd (let no_way : None ≡ Some m = e in cc);
    priors = priors_led;
  }

  -- where it is, the node of whose subsequents it is one is left, if that is over well
  module _ (p2 : Progress) (within : at < length p1.finished.items) (o : Option ℕ)
      (over_too : p2.over.items ≡ p1.over.items) (set_at : p2.finished.items ≡ set p1.finished.items at true)
      (raised_too : IsRaised p1.wanted.items p2.wanted.items p1.pending.items p2.pending.items)
      (invocations_too : IsLed p2.finished.items p2.wanted.items false invocations)
      (priors_too : ArePriorsLed (parallel_at nodes) (priors_at nodes) p2.finished.items p2.confirmed.items p2.wanted.items p2.pending.items)
      (parent : (m : ℕ) → Contains (subsequents_at nodes m) at → flag p2.over.items m ≡ true → o ≡ Some m)
      (parent_over : (m : ℕ) → o ≡ Some m → flag p2.over.items m ≡ true) where
    over_first : (m : ℕ) → flag p2.over.items m ≡ true → flag p1.over.items m ≡ true
    over_first m up = subst (λ xs. flag xs m ≡ true) over_too up

    set_up : (q : ℕ) → flag (set p1.finished.items at true) q ≡ true → flag p2.finished.items q ≡ true
    set_up q up = subst (λ xs. flag xs q ≡ true) (sym set_at) up

    up_set : (q : ℕ) → flag p2.finished.items q ≡ true → flag (set p1.finished.items at true) q ≡ true
    up_set q up = subst (λ xs. flag xs q ≡ true) set_at up

    led_set : (together : Bool) (xs : List ℕ) → (together ≡ true) ⊎ ((j : ℕ) → j < length xs → slice_index xs j ≡ at → ⊥) → IsLed p1.finished.items p1.wanted.items together xs → IsLed p2.finished.items p2.wanted.items together xs
    led_set together xs which l =
        led_on p2.finished.items p1.wanted.items p2.wanted.items together xs raised_too.keeps
        (subst (λ f. IsLed f p1.wanted.items together xs) (sym set_at) (led_finished p1.finished.items p1.wanted.items at together xs which l))

    -- the node isn't one of the subsequents of a node that is over well and isn't left
    apart : (m : ℕ) → (o ≡ Some m → ⊥) → flag p2.over.items m ≡ true → (j : ℕ) → j < length (subsequents_at nodes m) → slice_index (subsequents_at nodes m) j ≡ at → ⊥
    apart m left up j lt same = left (parent m (subst (λ i. Contains (subsequents_at nodes m) i) same (contains_at (subsequents_at nodes m) j lt)) up)

    pub closed_next : IsClosedBut nodes invocations p2 o
    closed_next = record {
      finished = λ k lt left up all.
          ⊎_elim
          (λ (same : k ≡ at). set_up k (rw same (get_or-set_same p1.finished.items at true false within)))
          (λ (other : k ≡ at → ⊥).
          set_up k (flag_kept p1.finished.items at k within
          (finished_other k lt other (over_first k up) (λ q c. flag_other p1.finished.items at q
          (λ same. left (parent k (subst (λ i. Contains (subsequents_at nodes k) i) same c) up)) (up_set q (all q c))))))
          (same_or k at);
      invoked = invocations_too;
      subsequents = λ m left up. led_set (parallel_at nodes m) (subsequents_at nodes m) (inr (apart m left up)) (subsequents_led m (over_first m up));
      over = parent_over;
      together = λ m e all. led_set true (subsequents_at nodes m) (inl refl) (subst (λ b. IsLed p1.finished.items p1.wanted.items b (subsequents_at nodes m)) all (subsequents_led m (over_first m (parent_over m e))));
      priors = priors_too;
    }

-- the flags say nothing false, as a node is flagged as finished that is over well, with all its subsequents
pub told_next : (nodes : List PlanNode) (invocations : List ℕ) (h : List Event) (p q : Progress) (at : ℕ) → at < length p.over.items → flag p.over.items at ≡ true
    → ((k : ℕ) → Contains (subsequents_at nodes at) k → flag p.finished.items k ≡ true)
    → q.over.items ≡ p.over.items → q.finished.items ≡ set p.finished.items at true
    → q.confirmed.items ≡ p.confirmed.items → KeepsWanted nodes invocations q.finished.items p.confirmed.items p.wanted.items q.wanted.items
    → IsTold nodes invocations h p → IsTold nodes invocations h q
told_next nodes invocations h p q at lt up all over_is set_is confirmed_is keeps told =
    let done : AllFinished nodes h q.finished.items =
    λ k raised. ⊎_elim
    (λ (same : k ≡ at). subst (λ i. IsFinished nodes h i) (sym same) (finished at (sym (told.over at lt) ∙ up) (λ i c. told.finished i (all i c))))
    (λ (other : k ≡ at → ⊥). told.finished k (flag_other p.finished.items at k other (subst (λ xs. flag xs k ≡ true) set_is raised)))
    (same_or k at) in
    record {
      over = λ k within. ap (λ xs. flag xs k) over_is ∙ told.over k (omega (arith, within, ap (λ xs. length xs) over_is));
      finished = done;
      confirmed = subst (λ xs. AllConfirmed nodes h xs) (sym confirmed_is) told.confirmed;
      wanted = keeps h done told.confirmed told.wanted;
    }
