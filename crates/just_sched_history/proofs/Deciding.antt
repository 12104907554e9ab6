-- Whether a node is finished, wanted or ready can be told of any history of a well-formed plan.
use Rattle.std.proofs.Common.{◌≡◌, ℕ, ◌+◌, ◌<◌, ◌≤◌, ◌⊎◌, inl, inr, ⊎_elim, zero, suc, Bool, true, false, List, length, refl, sym, subst, ◌∙◌, arith}
use Rattle.std.proofs.Math.Bridge.{le_prop}
use Rattle.std.proofs.Math.Decide.{dec_lt}
use Rattle.std.proofs.Math.Logic.{∥∥₁_elim, ∥∥₁_map}
use Rattle.std.proofs.lemmas.Grind.{get_or_default_zero}
use Rattle.std.specs.Prelude.{slice_index, Contains}
use Rattle.just_eval_closure.specs.WellFormed.{IsWellFormed}
use Rattle.just_sched_history.specs.declared.event.Event.{Event}
use Rattle.just_sched_history.specs.declared.plan_node.PlanNode.{PlanNode}
use Rattle.just_sched_history.specs.Nodes.{priors_at, subsequents_at, parallel_at}
use Rattle.just_sched_history.specs.State.{is_over_well, is_confirmed, IsFinished, IsWanted, MayComeNext, finished, invoked, prior, subsequent}
use Rattle.just_sched_history.specs.Tables.{FlagsMean}
use Rattle.just_sched_history.proofs.Finish.{finished_over, finished_behind}
use Rattle.just_sched_history.proofs.PlanLaws.{shapes, subsequent_behind, subsequent_within, invocation_within, contains_at}
use Rattle.just_sched_history.proofs.RowLaws.{same_or}
use Rattle.just_sched_history.proofs.WantedLaws.{leads_contains, priors_below, priors_inside}

-- a fact holds, or it doesn't
abbrev pub Told : Type 0 → Type 0
Told P = P ⊎ (P → ⊥)

-- a truth value is true, or not
pub told_true : (b : Bool) → Told (b ≡ true)
told_true true = inl refl
told_true false = inr (λ e. cc)

-- two facts together
pub told_both : {P Q : Type 0} → Told P → Told Q → Told (P × Q)
told_both (inl p) (inl q) = inl (p, q)
told_both (inl p) (inr never) = inr (λ b. never b.1)
told_both (inr never) q = inr (λ b. never b.0)

-- one of two facts
pub told_either : {P Q : Type 0} → Told P → Told Q → Told (P ⊎ Q)
told_either (inl p) q = inl (inl p)
told_either (inr never) (inl q) = inl (inr q)
told_either (inr never) (inr nor) = inr (λ b. ⊎_elim never nor b)

-- a fact of each number below one
pub told_below : (P : ℕ → Type 0) (n : ℕ) → ((j : ℕ) → j < n → Told (P j)) → Told ((j : ℕ) → j < n → P j)
told_below P zero each = inl (λ j lt. absurd (omega arith))
told_below P (suc n) each =
    ⊎_elim
    (λ (low : (j : ℕ) → j < n → P j).
    ⊎_elim
    (λ (here : P n). inl (λ j lt. elim (dec_lt j n) [
      | yes less ↦ low j less
      | no not_less ↦ (let same : n ≡ j = omega arith in subst P same here)
    ]))
    (λ (never : P n → ⊥). inr (λ all. never (all n (omega arith))))
    (each n (omega arith)))
    (λ (never : ((j : ℕ) → j < n → P j) → ⊥). inr (λ all. never (λ j lt. all j (omega arith))))
    (told_below P n (λ j lt. each j (omega arith)))

-- a fact of some number below one
pub told_some : (P : ℕ → Type 0) (n : ℕ) → ((j : ℕ) → j < n → Told (P j)) → Told ((j : ℕ) × (j < n) × P j)
told_some P zero each = inr (λ s. omega (arith, s.1))
told_some P (suc n) each =
    ⊎_elim
    (λ (here : P n). inl (n, omega arith, here))
    (λ (never : P n → ⊥).
    ⊎_elim
    (λ (s : (j : ℕ) × (j < n) × P j). inl (s.0, omega (arith, s.1), s.2))
    (λ (none_of : ((j : ℕ) × (j < n) × P j) → ⊥). inr (λ s. elim (dec_lt s.0 n) [
      | yes less ↦ none_of (s.0, less, s.2)
      | no not_less ↦ (let same : s.0 ≡ n = omega (arith, s.1) in never (subst P same s.2))
    ]))
    (told_some P n (λ j lt. each j (omega arith))))
    (each n (omega arith))

-- who leads a list, where it can be told of its members
pub told_leads : (F : ℕ → Type 0) (together : Bool) (xs : List ℕ) (n : ℕ) → ((j : ℕ) → j < length xs → Told (F (slice_index xs j))) → Told (MayComeNext F together xs n)
told_leads F together xs n each =
    ⊎_elim (λ (s : (k : ℕ) × (k < length xs) × ((slice_index xs k ≡ n) × ((together ≡ true) ⊎ ((j : ℕ) → j < k → F (slice_index xs j))))). inl (s.0, s.1, s.2.0, s.2.1))
    (λ (never : (k : ℕ) × (k < length xs) × ((slice_index xs k ≡ n) × ((together ≡ true) ⊎ ((j : ℕ) → j < k → F (slice_index xs j)))) → ⊥). inr (λ m. never (m.0, m.1, (m.2, m.3))))
    (told_some (λ k. (slice_index xs k ≡ n) × ((together ≡ true) ⊎ ((j : ℕ) → j < k → F (slice_index xs j)))) (length xs)
    (λ k lt. told_both (same_or (slice_index xs k) n) (told_either (told_true together) (told_below (λ j. F (slice_index xs j)) k (λ j less. each j (omega arith)))))
    )

-- what holds at each place of a list holds of each that it contains
pub of_contained : (F : ℕ → Type 0) (xs : List ℕ) → ((j : ℕ) → j < length xs → F (slice_index xs j)) → (q : ℕ) → Contains xs q → F q
of_contained F xs each q c = subst F (sym (get_or_default_zero xs c.0 q c.1) ∙ c.2) (each c.0 c.1)

module _ (nodes : List PlanNode) (invocations : List ℕ) (well : ∥ IsWellFormed (shapes nodes) invocations ∥₁) (h : List Event) where
  -- a subsequent is a node, and has a higher number
  above : (n j : ℕ) → j < length (subsequents_at nodes n) → n < slice_index (subsequents_at nodes n) j
  above n j lt = ∥∥₁_elim well le_prop (λ w. (subsequent_behind nodes invocations w n (slice_index (subsequents_at nodes n) j) (contains_at (subsequents_at nodes n) j lt)).0)

  there : (n j : ℕ) → j < length (subsequents_at nodes n) → slice_index (subsequents_at nodes n) j < length nodes
  there n j lt = ∥∥₁_elim well le_prop (λ w. (subsequent_behind nodes invocations w n (slice_index (subsequents_at nodes n) j) (contains_at (subsequents_at nodes n) j lt)).1)

  -- a node whose subsequents are told, by whether it is over well
  told_over : (n : ℕ) → Told ((j : ℕ) → j < length (subsequents_at nodes n) → IsFinished nodes h (slice_index (subsequents_at nodes n) j)) → Told (IsFinished nodes h n)
  told_over n told =
      ⊎_elim
      (λ (over : is_over_well h n ≡ true).
      ⊎_elim
      (λ (each : (j : ℕ) → j < length (subsequents_at nodes n) → IsFinished nodes h (slice_index (subsequents_at nodes n) j)).
      inl (finished n over (of_contained (IsFinished nodes h) (subsequents_at nodes n) each)))
      (λ (never : ((j : ℕ) → j < length (subsequents_at nodes n) → IsFinished nodes h (slice_index (subsequents_at nodes n) j)) → ⊥).
      inr (λ f. never (λ j lt. finished_behind nodes h n (slice_index (subsequents_at nodes n) j) f (contains_at (subsequents_at nodes n) j lt))))
      told)
      (λ (never : is_over_well h n ≡ true → ⊥). inr (λ f. never (finished_over nodes h n f)))
      (told_true (is_over_well h n))

  -- by the number of nodes behind
  told_finished_by : (more n : ℕ) → length nodes ≤ n + more → Told (IsFinished nodes h n)
  told_finished_by zero n le =
      told_over n (inl (λ j lt. absurd (omega (arith, above n j lt, there n j lt))))
  told_finished_by (suc more) n le =
      told_over n (told_below (λ j. IsFinished nodes h (slice_index (subsequents_at nodes n) j)) (length (subsequents_at nodes n))
      (λ j lt. told_finished_by more (slice_index (subsequents_at nodes n) j) (omega (arith, above n j lt))))

  -- whether a node is finished
  pub told_finished : (n : ℕ) → Told (IsFinished nodes h n)
  told_finished n = told_finished_by (length nodes) n (omega arith)

  -- a wanted node is a node
  pub wanted_inside : (k : ℕ) → IsWanted nodes invocations h k → k < length nodes
  wanted_inside k (invoked n leads) = ∥∥₁_elim well le_prop (λ w. invocation_within nodes invocations w n (leads_contains (IsFinished nodes h) false invocations n leads))
  wanted_inside k (prior m n wanted is_confirmed leads) =
      let at = leads_contains (IsFinished nodes h) (parallel_at nodes m) (priors_at nodes m) n leads in
      omega (arith, priors_below nodes invocations well m n at, priors_inside nodes invocations well m n at)
  wanted_inside k (subsequent m n over leads) =
      ∥∥₁_elim well le_prop (λ w. (subsequent_behind nodes invocations w m n (leads_contains (IsFinished nodes h) (parallel_at nodes m) (subsequents_at nodes m) n leads)).1)

  -- by which of its ways a node is wanted
  abbrev BySubsequent : ℕ → ℕ → Type 0
  BySubsequent n m = (is_over_well h m ≡ true) × MayComeNext (IsFinished nodes h) (parallel_at nodes m) (subsequents_at nodes m) n

  abbrev ByPrior : ℕ → ℕ → Type 0
  ByPrior n m = IsWanted nodes invocations h m × ((is_confirmed nodes h m ≡ true) × MayComeNext (IsFinished nodes h) (parallel_at nodes m) (priors_at nodes m) n)

  -- whether a node leads a list, all of whose members are told of
  told_next : (together : Bool) (xs : List ℕ) (n : ℕ) → Told (MayComeNext (IsFinished nodes h) together xs n)
  told_next together xs n = told_leads (IsFinished nodes h) together xs n (λ j lt. told_finished (slice_index xs j))

  -- a wanted node is so in one of three ways
  no_way : (k : ℕ) → IsWanted nodes invocations h k → (MayComeNext (IsFinished nodes h) false invocations k → ⊥) → ((m : ℕ) × (m < length nodes) × BySubsequent k m → ⊥) → ((m : ℕ) × (m < length nodes) × ByPrior k m → ⊥) → ⊥
  no_way k (invoked n leads) a b c = a leads
  no_way k (prior m n wanted is_confirmed leads) a b c =
      c (m, priors_inside nodes invocations well m n (leads_contains (IsFinished nodes h) (parallel_at nodes m) (priors_at nodes m) n leads), (wanted, (is_confirmed, leads)))
  no_way k (subsequent m n over leads) a b c =
      b (m, ∥∥₁_elim well le_prop (λ w. subsequent_within nodes invocations w m n (leads_contains (IsFinished nodes h) (parallel_at nodes m) (subsequents_at nodes m) n leads)), (over, leads))

  -- whether a node is wanted by one with that number
  told_prior : (n m : ℕ) → (n < m → Told (IsWanted nodes invocations h m)) → Told (ByPrior n m)
  told_prior n m told =
      ⊎_elim
      (λ (leads : MayComeNext (IsFinished nodes h) (parallel_at nodes m) (priors_at nodes m) n).
      let below : n < m = priors_below nodes invocations well m n (leads_contains (IsFinished nodes h) (parallel_at nodes m) (priors_at nodes m) n leads) in
      told_both (told below) (told_both (told_true (is_confirmed nodes h m)) (inl leads)))
      (λ (never : MayComeNext (IsFinished nodes h) (parallel_at nodes m) (priors_at nodes m) n → ⊥). inr (λ b. never b.1.1))
      (told_next (parallel_at nodes m) (priors_at nodes m) n)

  -- whether a node is wanted, by whether those of higher numbers are
  told_by_higher : (n : ℕ) → ((m : ℕ) → n < m → Told (IsWanted nodes invocations h m)) → Told (IsWanted nodes invocations h n)
  told_by_higher n higher =
      ⊎_elim (λ (leads : MayComeNext (IsFinished nodes h) false invocations n). inl (invoked n leads))
      (λ (not_invoked : MayComeNext (IsFinished nodes h) false invocations n → ⊥).
      ⊎_elim (λ (s : (m : ℕ) × (m < length nodes) × BySubsequent n m). inl (subsequent s.0 n s.2.0 s.2.1))
      (λ (no_node : (m : ℕ) × (m < length nodes) × BySubsequent n m → ⊥).
      ⊎_elim (λ (s : (m : ℕ) × (m < length nodes) × ByPrior n m). inl (prior s.0 n s.2.0 s.2.1.0 s.2.1.1))
      (λ (no_prior : (m : ℕ) × (m < length nodes) × ByPrior n m → ⊥). inr (λ w. no_way n w not_invoked no_node no_prior))
      (told_some (ByPrior n) (length nodes) (λ m lt. told_prior n m (higher m))))
      (told_some (BySubsequent n) (length nodes) (λ m lt. told_both (told_true (is_over_well h m)) (told_next (parallel_at nodes m) (subsequents_at nodes m) n))))
      (told_next false invocations n)

  -- by the number of nodes behind; past the last one none is wanted
  told_wanted_by : (more n : ℕ) → length nodes < n + more → Told (IsWanted nodes invocations h n)
  told_wanted_by zero n lt = inr (λ w. omega (arith, wanted_inside n w))
  told_wanted_by (suc more) n lt = told_by_higher n (λ m less. told_wanted_by more m (omega arith))

  -- whether a node is wanted
  pub told_wanted : (n : ℕ) → Told (IsWanted nodes invocations h n)
  told_wanted n = told_wanted_by (length nodes + 1) n (omega arith)

-- what is told of a fact, and that it isn't refuted, give the fact
pub stable : {P : Type 0} → Told P → ∥ P ∥₁ → P
stable (inl p) t = p
stable (inr never) t = absurd (∥∥₁_elim t (λ x. absurd x) never)

-- flags that mean a fact which can be told
pub meant : (flags : List Bool) (P : ℕ → Type 0) → ((n : ℕ) → Told (P n)) → ∥ FlagsMean flags P ∥₁ → FlagsMean flags P
meant flags P told t k lt =
    (λ up. stable (told k) (∥∥₁_map t (λ f. (f k lt).0 up)), λ down p. ∥∥₁_elim t (λ x. absurd x) (λ f. (f k lt).1 down p))
