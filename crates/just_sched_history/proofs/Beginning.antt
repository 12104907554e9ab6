-- What holds of a run of which no event speaks yet, once the invocations are gone along.
use Rattle.std.proofs.Common.{◌≡◌, ℕ, ◌⊎◌, inl, ⊎_elim, Bool, true, false, true≢false, List, [], None, sym, ◌∙◌, subst}
use Rattle.std.specs.Prelude.{slice_index, Contains}
use Rattle.just_sched_history.specs.declared.plan_node.PlanNode.{PlanNode}
use Rattle.just_sched_history.specs.declared.progress.Progress.{Progress}
use Rattle.just_sched_history.specs.State.{is_over_well, is_confirmed, IsFinished, invoked}
use Rattle.just_sched_history.specs.Tables.{flag, FlagsAre}
use Rattle.just_sched_history.specs.Covered.{AreCoveredBy}
use Rattle.just_sched_history.specs.Led.{IsRaised, MayFollow, IsLed}
use Rattle.just_sched_history.specs.Progress.{IsClosedBut, IsTold}
use Rattle.just_sched_history.proofs.Entering.{no_next}
use Rattle.just_sched_history.proofs.Led.{flag_within}
use Rattle.just_sched_history.proofs.WantedLaws.{leads_weaker}

-- where all flags are down none is up
pub none_up : (flags : List Bool) → FlagsAre flags (λ _. false) → (k : ℕ) → flag flags k ≡ true → ⊥
none_up flags down k up = true≢false (sym up ∙ down k (flag_within flags k up))

module _ (nodes : List PlanNode) (invocations : List ℕ) (p q : Progress) (over_is : q.over.items ≡ p.over.items) (finished_is : q.finished.items ≡ p.finished.items) (confirmed_is : q.confirmed.items ≡ p.confirmed.items)
    (over : FlagsAre p.over.items (λ _. false)) (finished : FlagsAre p.finished.items (λ _. false)) (wanted : FlagsAre p.wanted.items (λ _. false))
    (raised : IsRaised p.wanted.items q.wanted.items p.pending.items q.pending.items) where
  never_over : (m : ℕ) → flag q.over.items m ≡ true → ⊥
  never_over m up = none_up p.over.items over m (subst (λ xs. flag xs m ≡ true) over_is up)

  pub closed_begun : IsLed q.finished.items q.wanted.items false invocations → IsClosedBut nodes invocations q None
  closed_begun led = record {
    finished = λ k lt left up all. absurd (never_over k up);
    invoked = led;
    subsequents = λ m left up. absurd (never_over m up);
    over = λ m e. absurd (no_next m e);
    together = λ m e all. absurd (no_next m e);
    priors = λ m up _. ⊎_elim (λ (was : flag p.wanted.items m ≡ true). absurd (none_up p.wanted.items wanted m was)) (λ (listed : Contains q.pending.items m). inl listed) (raised.noted m up);
  }

  pub told_begun : FlagsAre p.confirmed.items (is_confirmed nodes []) → ((k : ℕ) → flag q.wanted.items k ≡ true → (flag p.wanted.items k ≡ true) ⊎ MayFollow p.finished.items false invocations k) → IsTold nodes invocations [] q
  told_begun said only = record {
    over = subst (λ xs. FlagsAre xs (is_over_well [])) (sym over_is) over;
    finished = λ k up. absurd (none_up p.finished.items finished k (subst (λ xs. flag xs k ≡ true) finished_is up));
    confirmed = λ k up. let was : flag p.confirmed.items k ≡ true = subst (λ xs. flag xs k ≡ true) confirmed_is up in sym (said k (flag_within p.confirmed.items k was)) ∙ was;
    wanted = λ k up. ⊎_elim (λ (was : flag p.wanted.items k ≡ true). absurd (none_up p.wanted.items wanted k was))
        (λ (next : MayFollow p.finished.items false invocations k).
        invoked k (leads_weaker (λ i. flag p.finished.items i ≡ true) (IsFinished nodes []) false invocations k (λ j lt f. absurd (none_up p.finished.items finished (slice_index invocations j) f)) next))
        (only k up);
  }

-- each wanted node is listed, once the invocations are gone along
pub covered_begun : (nodes : List PlanNode) (gone : ℕ → Bool) (due : List Bool) (p q : Progress) → FlagsAre p.wanted.items (λ _. false) → IsRaised p.wanted.items q.wanted.items p.pending.items q.pending.items → AreCoveredBy nodes gone due q
covered_begun nodes gone due p q wanted raised m up left =
    ⊎_elim (λ (was : flag p.wanted.items m ≡ true). absurd (none_up p.wanted.items wanted m was)) (λ (listed : Contains q.pending.items m). inl listed) (raised.noted m up)
