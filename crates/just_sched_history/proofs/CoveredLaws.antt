-- What is known of the set of the nodes that may be due, as flags are raised.
use Rattle.std.proofs.Common.{◌≡◌, ℕ, ◌+◌, ◌<◌, ◌⊎◌, ◌||◌, inl, inr, ⊎_elim, Bool, true, false, true≢false, List, [], ◌∷◌, ◌++◌, length, set, get_or-set_same, get_or-set_other, refl, sym, ◌∙◌, subst, arith}
use Rattle.std.specs.Prelude.{slice_index, Contains}
use Rattle.just_sched_history.specs.declared.plan_node.PlanNode.{PlanNode}
use Rattle.just_sched_history.specs.declared.progress.Progress.{Progress}
use Rattle.just_sched_history.specs.Nodes.{priors_at}
use Rattle.just_sched_history.specs.Covered.{IsHeldUp, IsCovered, AreCovered, AreCoveredBy}
use Rattle.just_sched_history.specs.Tables.{flag}
use Rattle.just_sched_history.specs.Led.{IsRaised}
use Rattle.just_sched_history.proofs.Closing.{flag_kept}
use Rattle.just_sched_history.proofs.Led.{contained_more, same_or}
use Rattle.just_sched_history.proofs.Placing.{of_contained}

module _ (nodes : List PlanNode) (s t f c : List Bool) (keeps : (k : ℕ) → flag s k ≡ true → flag t k ≡ true) where
  -- who is covered stays so by a greater set
  pub covered_more : (n : ℕ) → IsCovered nodes s f c n → IsCovered nodes t f c n
  covered_more n (inl there) = inl (keeps n there)
  covered_more n (inr held) = inr held

  -- as nodes are flagged as wanted and listed
  pub covered_raised : (gone : ℕ → Bool) (w v : List Bool) (before after : List ℕ) → IsRaised w v before after → AreCovered nodes gone s f c w before → AreCovered nodes gone t f c v after
  covered_raised gone w v before after raised old n up left =
      ⊎_elim
      (λ (was : flag w n ≡ true). ⊎_elim (λ (listed : Contains before n). inl (raised.listed n listed)) (λ (covered : IsCovered nodes s f c n). inr (covered_more n covered)) (old n was left))
      (λ (listed : Contains after n). inl listed)
      (raised.noted n up)

  -- the same where one is taken from the list that is covered then
  pub covered_popped : (gone : ℕ → Bool) (w v : List Bool) (before after : List ℕ) (m : ℕ) → IsRaised w v before after → (was : List ℕ) → was ≡ before ++ m ∷ []
      → (flag w m ≡ true → IsCovered nodes t f c m) → AreCovered nodes gone s f c w was → AreCovered nodes gone t f c v after
  covered_popped gone w v before after m raised was is here old n up left =
      ⊎_elim
      (λ (up_before : flag w n ≡ true).
      ⊎_elim
      (λ (at : Contains was n).
      ⊎_elim (λ (rest : Contains before n). inl (raised.listed n rest))
      (λ (same : n ≡ m). inr (subst (λ i. IsCovered nodes t f c i) (sym same) (here (subst (λ i. flag w i ≡ true) same up_before))))
      (contained_more before m n (subst (λ (xs : List ℕ). Contains xs n) is at)))
      (λ (covered : IsCovered nodes s f c n). inr (covered_more n covered))
      (old n up_before left))
      (λ (at : Contains after n). inl at)
      (raised.noted n up)

  -- of the members of a list one more is covered
  pub covered_one_more : (w v : List Bool) (before after : List ℕ) → IsRaised w v before after → (xs : List ℕ) (m : ℕ)
      → ((j : ℕ) → j < m → flag w (slice_index xs j) ≡ true → Contains before (slice_index xs j) ⊎ IsCovered nodes s f c (slice_index xs j))
      → (flag w (slice_index xs m) ≡ true → IsCovered nodes t f c (slice_index xs m))
      → (j : ℕ) → j < m + 1 → flag v (slice_index xs j) ≡ true → Contains after (slice_index xs j) ⊎ IsCovered nodes t f c (slice_index xs j)
  covered_one_more w v before after raised xs m so_far here j lt up =
      ⊎_elim
      (λ (was : flag w (slice_index xs j) ≡ true).
      ⊎_elim (λ (same : j ≡ m). inr (subst (λ i. IsCovered nodes t f c (slice_index xs i)) (sym same) (here (subst (λ i. flag w (slice_index xs i) ≡ true) same was))))
      (λ (other : j ≡ m → ⊥).
      ⊎_elim (λ (listed : Contains before (slice_index xs j)). inl (raised.listed (slice_index xs j) listed))
      (λ (covered : IsCovered nodes s f c (slice_index xs j)). inr (covered_more (slice_index xs j) covered))
      (so_far j (omega (arith, lt, other)) was))
      (same_or j m))
      (λ (listed : Contains after (slice_index xs j)). inl listed)
      (raised.noted (slice_index xs j) up)

  -- as one node more is finished, and those that have it as a prior are covered
  pub covered_finished : (gone : ℕ → Bool) (w v : List Bool) (before after : List ℕ) → IsRaised w v before after → (at : ℕ) (dependents : List ℕ)
      → ((m : ℕ) → Contains (priors_at nodes m) at → Contains dependents m)
      → ((j : ℕ) → j < length dependents → flag v (slice_index dependents j) ≡ true → Contains after (slice_index dependents j) ⊎ IsCovered nodes t (set f at true) c (slice_index dependents j))
      → AreCovered nodes gone s f c w before → AreCovered nodes gone t (set f at true) c v after
  covered_finished gone w v before after raised at dependents whole spread old n up left =
      ⊎_elim
      (λ (was : flag w n ≡ true).
      ⊎_elim (λ (listed : Contains before n). inl (raised.listed n listed))
      (λ (covered : IsCovered nodes s f c n).
      ⊎_elim (λ (there : flag s n ≡ true). inr (inl (keeps n there)))
      (λ (held : IsHeldUp nodes f c n).
      ⊎_elim
      (λ (same : held.node ≡ at). of_contained (λ i. flag v i ≡ true → Contains after i ⊎ IsCovered nodes t (set f at true) c i) dependents spread n (whole n (subst (λ i. Contains (priors_at nodes n) i) same held.among)) up)
      (λ (other : held.node ≡ at → ⊥).
      inr (inr (record { sure = held.sure; node = held.node; among = held.among; unfinished = get_or-set_other f at held.node true false other ∙ held.unfinished })))
      (same_or held.node at))
      covered)
      (old n was left))
      (λ (listed : Contains after n). inl listed)
      (raised.noted n up)

-- as one node more is confirmed, which is covered then
pub covered_confirmed : (nodes : List PlanNode) (gone : ℕ → Bool) (s t f c : List Bool) → ((k : ℕ) → flag s k ≡ true → flag t k ≡ true) → (w v : List Bool) (before after : List ℕ) → IsRaised w v before after → (at : ℕ) → at < length c
    → (flag w at ≡ true → IsCovered nodes t f (set c at true) at)
    → AreCovered nodes gone s f c w before → AreCovered nodes gone t f (set c at true) v after
covered_confirmed nodes gone s t f c keeps w v before after raised at lt here old n up left =
    ⊎_elim
    (λ (was : flag w n ≡ true).
    ⊎_elim (λ (same : n ≡ at). inr (subst (λ i. IsCovered nodes t f (set c at true) i) (sym same) (here (subst (λ i. flag w i ≡ true) same was))))
    (λ (other : n ≡ at → ⊥).
    ⊎_elim (λ (listed : Contains before n). inl (raised.listed n listed))
    (λ (covered : IsCovered nodes s f c n).
    ⊎_elim (λ (there : flag s n ≡ true). inr (inl (keeps n there)))
    (λ (held : IsHeldUp nodes f c n). inr (inr (record { sure = flag_kept c at n lt held.sure; node = held.node; among = held.among; unfinished = held.unfinished })))
    covered)
    (old n was left))
    (same_or n at))
    (λ (listed : Contains after n). inl listed)
    (raised.noted n up)

-- of what is kept of a run's progress, as nodes are flagged as wanted and listed
pub covered_by_raised : (nodes : List PlanNode) (gone : ℕ → Bool) (due : List Bool) (p q : Progress) → q.finished.items ≡ p.finished.items → q.confirmed.items ≡ p.confirmed.items
    → IsRaised p.wanted.items q.wanted.items p.pending.items q.pending.items → AreCoveredBy nodes gone due p → AreCoveredBy nodes gone due q
covered_by_raised nodes gone due p q same sure raised old =
    subst (λ (f : List Bool). AreCovered nodes gone due f q.confirmed.items q.wanted.items q.pending.items) (sym same)
    (subst (λ (c : List Bool). AreCovered nodes gone due p.finished.items c q.wanted.items q.pending.items) (sym sure)
    (covered_raised nodes due due p.finished.items p.confirmed.items (λ k up. up) gone p.wanted.items q.wanted.items p.pending.items q.pending.items raised old))
