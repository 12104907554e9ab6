-- What becomes of lists that are led as one node more is finished.
use Rattle.std.proofs.Common.{◌≡◌, ℕ, ◌<◌, ◌⊎◌, inl, inr, ⊎_elim, zero, suc, Bool, true, false, List, length, set, get_or-set_same, get_or-set_other, refl, sym, ◌∙◌, subst, arith}
use Rattle.std.specs.Prelude.{slice_index}
use Rattle.just_sched_history.specs.Tables.{flag}
use Rattle.just_sched_history.specs.Led.{IsBefore, IsLed}
use Rattle.just_sched_history.proofs.Led.{same_or}

-- one of the first n members of a list is x, or none is
pub among_or : (xs : List ℕ) (x n : ℕ) → ((j : ℕ) × (j < n) × (slice_index xs j ≡ x)) ⊎ ((j : ℕ) → j < n → slice_index xs j ≡ x → ⊥)
among_or xs x zero = inr (λ j lt same. omega (arith, lt))
among_or xs x (suc n) =
    ⊎_elim (λ (here : slice_index xs n ≡ x). inl (n, omega arith, here))
    (λ (not_here : slice_index xs n ≡ x → ⊥).
    ⊎_elim (λ (sooner : (j : ℕ) × (j < n) × (slice_index xs j ≡ x)). inl (sooner.0, omega (arith, sooner.1), sooner.2))
    (λ (never : (j : ℕ) → j < n → slice_index xs j ≡ x → ⊥). inr (λ j lt same.
    ⊎_elim (λ (last : j ≡ n). not_here (subst (λ i. slice_index xs i ≡ x) last same)) (λ (other : j ≡ n → ⊥). never j (omega (arith, lt, other)) same) (same_or j n)))
    (among_or xs x n))
    (same_or (slice_index xs n) x)

-- a flag that is up stays so where one is raised
pub flag_kept : (flags : List Bool) (at k : ℕ) → at < length flags → flag flags k ≡ true → flag (set flags at true) k ≡ true
flag_kept flags at k lt up =
    ⊎_elim (λ (same : k ≡ at). rw same (get_or-set_same flags at true false lt)) (λ (other : k ≡ at → ⊥). get_or-set_other flags at k true false other ∙ up) (same_or k at)

-- where one is raised another is up that was
pub flag_other : (flags : List Bool) (at k : ℕ) → (k ≡ at → ⊥) → flag (set flags at true) k ≡ true → flag flags k ≡ true
flag_other flags at k other up = sym (get_or-set_other flags at k true false other) ∙ up

-- what is before a place stays so as one node more is finished
pub before_finished : (finished wanted : List Bool) (at : ℕ) (xs : List ℕ) (place : ℕ) → at < length finished → IsBefore finished wanted xs place → IsBefore (set finished at true) wanted xs place
before_finished finished wanted at xs place lt before = (before.0, λ j less. (flag_kept finished at (slice_index xs j) lt (before.1 j less).0, (before.1 j less).1))

-- a list in which the node doesn't stand, or whose members go together, stays led as the node is finished
pub led_finished : (finished wanted : List Bool) (at : ℕ) (together : Bool) (xs : List ℕ)
    → (together ≡ true) ⊎ ((j : ℕ) → j < length xs → slice_index xs j ≡ at → ⊥)
    → IsLed finished wanted together xs → IsLed (set finished at true) wanted together xs
led_finished finished wanted at together xs which led k next =
    led k (
      next.0,
      next.1,
      next.2,
      ⊎_elim (λ (all : together ≡ true). inl all)
          (λ (never : (j : ℕ) → j < length xs → slice_index xs j ≡ at → ⊥).
          ⊎_elim (λ (all : together ≡ true). inl all)
          (λ (each : (j : ℕ) → j < next.0 → flag (set finished at true) (slice_index xs j) ≡ true).
          inr (λ j less. flag_other finished at (slice_index xs j) (never j (omega (arith, less, next.1))) (each j less)))
          next.3)
          which,
    )

-- a list that is led in turn is led, where its members go together or don't
pub led_either : (finished wanted : List Bool) (together : Bool) (xs : List ℕ) → (together ≡ true → IsLed finished wanted true xs) → IsLed finished wanted false xs → IsLed finished wanted together xs
led_either finished wanted true xs all turn = all refl
led_either finished wanted false xs all turn = turn
