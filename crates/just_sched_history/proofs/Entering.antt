-- What is kept as one node more is over well.
use Rattle.std.proofs.Common.{◌≡◌, ℕ, ◌<◌, ◌⊎◌, inl, inr, ⊎_elim, Bool, true, false, List, length, set, get_or-set_same, Some, None, sym, ◌∙◌, ap, subst, arith}
use Rattle.std.proofs.lemmas.Grind.{get_or_default_zero}
use Rattle.std.specs.Prelude.{slice_index, Contains}
use Rattle.just_sched_history.specs.declared.event.Event.{Event}
use Rattle.just_sched_history.specs.declared.plan_node.PlanNode.{PlanNode}
use Rattle.just_sched_history.specs.declared.progress.Progress.{Progress}
use Rattle.just_sched_history.specs.Nodes.{priors_at, subsequents_at, parallel_at}
use Rattle.just_sched_history.specs.State.{is_over_well, subsequent}
use Rattle.just_sched_history.specs.Tables.{flag, FlagsAre}
use Rattle.just_sched_history.specs.Led.{IsRaised, IsLed, AllFinished, AllConfirmed, AllWanted}
use Rattle.just_sched_history.specs.Progress.{IsClosedBut, IsTold}
use Rattle.just_sched_history.proofs.Closing.{flag_other}
use Rattle.just_sched_history.proofs.Led.{led_on}

-- two numbers that are there are one
pub some_is : (a b : ℕ) → Some a ≡ Some b → a ≡ b
some_is a b e = cc

-- none isn't some
pub no_next : (m : ℕ) → None ≡ Some m → ⊥
no_next m e = cc

module _ (nodes : List PlanNode) (invocations : List ℕ) (p q : Progress) (node : ℕ) (within : node < length p.over.items)
    (over_is : q.over.items ≡ set p.over.items node true) (finished_is : q.finished.items ≡ p.finished.items) (confirmed_is : q.confirmed.items ≡ p.confirmed.items)
    (raised : IsRaised p.wanted.items q.wanted.items p.pending.items q.pending.items) where
  led_over : (together : Bool) (xs : List ℕ) → IsLed p.finished.items p.wanted.items together xs → IsLed q.finished.items q.wanted.items together xs
  led_over together xs l = led_on q.finished.items p.wanted.items q.wanted.items together xs raised.keeps (subst (λ f. IsLed f p.wanted.items together xs) (sym finished_is) l)

  over_before : (m : ℕ) → (Some node ≡ Some m → ⊥) → flag q.over.items m ≡ true → flag p.over.items m ≡ true
  over_before m left up = flag_other p.over.items node m (λ same. left (ap (λ i. Some i) (sym same))) (subst (λ xs. flag xs m ≡ true) over_is up)

  -- only that node is left
  pub entered : (parallel_at nodes node ≡ true → IsLed q.finished.items q.wanted.items true (subsequents_at nodes node)) → IsClosedBut nodes invocations p None → IsClosedBut nodes invocations q (Some node)
  entered all closed = record {
    finished = λ k lt left up each. subst (λ xs. flag xs k ≡ true) (sym finished_is) (closed.finished k lt (no_next k) (over_before k left up) (λ i c. subst (λ xs. flag xs i ≡ true) finished_is (each i c)));
    invoked = led_over false invocations closed.invoked;
    subsequents = λ m left up. led_over (parallel_at nodes m) (subsequents_at nodes m) (closed.subsequents m (no_next m) (over_before m left up));
    over = λ m e. subst (λ i. flag q.over.items i ≡ true) (some_is node m e) (subst (λ xs. flag xs node ≡ true) (sym over_is) (get_or-set_same p.over.items node true false within));
    together = λ m e any. let same = some_is node m e in subst (λ i. IsLed q.finished.items q.wanted.items true (subsequents_at nodes i)) same (all (subst (λ i. parallel_at nodes i ≡ true) (sym same) any));
    priors = λ m up sure. ⊎_elim
        (λ (before : flag p.wanted.items m ≡ true).
        ⊎_elim (λ (listed : Contains p.pending.items m). inl (raised.listed m listed))
        (λ (l : IsLed p.finished.items p.wanted.items (parallel_at nodes m) (priors_at nodes m)). inr (led_over (parallel_at nodes m) (priors_at nodes m) l))
        (closed.priors m before (subst (λ xs. flag xs m ≡ true) confirmed_is sure)))
        (λ (listed : Contains q.pending.items m). inl listed)
        (raised.noted m up);
  }

  -- the flags say nothing false by a history by which that node is over well
  pub told_entered : (h : List Event) → FlagsAre (set p.over.items node true) (is_over_well h) → AllFinished nodes h p.finished.items → AllConfirmed nodes h p.confirmed.items → AllWanted nodes invocations h p.wanted.items
      → ((k : ℕ) → flag q.wanted.items k ≡ true → (flag p.wanted.items k ≡ true) ⊎ ((parallel_at nodes node ≡ true) × Contains (subsequents_at nodes node) k))
      → length (set p.over.items node true) ≡ length p.over.items
      → IsTold nodes invocations h q
  told_entered h over done said are only sized = record {
    over = subst (λ xs. FlagsAre xs (is_over_well h)) (sym over_is) over;
    finished = subst (λ xs. AllFinished nodes h xs) (sym finished_is) done;
    confirmed = subst (λ xs. AllConfirmed nodes h xs) (sym confirmed_is) said;
    wanted = λ k up. ⊎_elim (λ (was : flag p.wanted.items k ≡ true). are k was)
        (λ (new : (parallel_at nodes node ≡ true) × Contains (subsequents_at nodes node) k).
        subsequent node k (sym (over node (omega (arith, within, sized))) ∙ get_or-set_same p.over.items node true false within)
        (new.1.0, new.1.1, sym (get_or_default_zero (subsequents_at nodes node) new.1.0 k new.1.1) ∙ new.1.2, inl new.0))
        (only k up);
  }

-- all members of a list that are wanted lead it, where they go together
pub led_all : (f w : List Bool) (xs : List ℕ) → ((j : ℕ) → j < length xs → flag w (slice_index xs j) ≡ true) → IsLed f w true xs
led_all f w xs each k next = subst (λ i. flag w i ≡ true) next.2 (each next.0 next.1)
