-- Laws of going along lists of nodes.
use Rattle.std.proofs.Common.{◌≡◌, ℕ, ◌+◌, ◌<◌, ◌⊎◌, inl, inr, ⊎_elim, zero, suc, Bool, true, false, not, cond, List, [], ◌∷◌, ◌++◌, length, length-append, set, get_or, get_or-set_same, get_or-set_other, refl, sym, ◌∙◌, subst, arith}
use Rattle.std.proofs.Math.ListN.{length-set}
use Rattle.std.proofs.Math.Decide.{dec_lt}
use Rattle.std.proofs.lemmas.List.Elements.{Contains-append_left, Contains-append_right, Contains-append_cases}
use Rattle.std.proofs.lemmas.List.Sums.{sum_by-cons}
use Rattle.std.specs.Prelude.{slice_index, Contains}
use Rattle.just_sched_history.specs.Tables.{flag}
use Rattle.just_sched_history.specs.Led.{down_count, IsRaised, IsBefore, MayFollow, IsLed, AreUp}

-- two numbers are one, or not
pub same_or : (m n : ℕ) → (m ≡ n) ⊎ (m ≡ n → ⊥)
same_or m n =
    elim (dec_lt m n) [
      | yes less ↦ inr (λ e. omega (arith, less, e))
      | no not_less ↦ elim (dec_lt n m) [
        | yes more ↦ inr (λ e. omega (arith, more, e))
        | no not_more ↦ inl (omega arith)
      ]
    ]

-- the first flag counts where it is down
down_more : (b : Bool) (flags : List Bool) → down_count (b ∷ flags) ≡ cond (not b) 1 0 + down_count flags
down_more b flags = sum_by-cons (λ x. cond (not x) 1 0) b flags

-- a flag that is raised is one fewer that is down
pub down_raised : (flags : List Bool) (i : ℕ) → i < length flags → flag flags i ≡ false → down_count (set flags i true) + 1 ≡ down_count flags
down_raised [] i lt down = absurd (omega (arith, lt))
down_raised (true ∷ flags) zero lt down = absurd (cc down)
down_raised (false ∷ flags) zero lt down = omega (arith, down_more true flags, down_more false flags)
down_raised (b ∷ flags) (suc i) lt down = omega (arith, down_raised flags i (omega (arith, lt)) down, down_more b flags, down_more b (set flags i true))

-- nothing was raised
pub raised_none : (flags : List Bool) (listed : List ℕ) → IsRaised flags flags listed listed
raised_none flags listed = record {
  sized = refl;
  keeps = λ k up. up;
  listed = λ k c. c;
  noted = λ k up. inl up;
  up = λ k c. inl c;
  counted = refl;
}

-- what is raised further was raised
pub raised_on : (a b c : List Bool) (x y z : List ℕ) → IsRaised a b x y → IsRaised b c y z → IsRaised a c x z
raised_on a b c x y z one two = record {
  sized = two.sized ∙ one.sized;
  keeps = λ k up. two.keeps k (one.keeps k up);
  listed = λ k at. two.listed k (one.listed k at);
  noted = λ k up. ⊎_elim (λ (before : flag b k ≡ true). ⊎_elim (λ (first : flag a k ≡ true). inl first) (λ (at : Contains y k). inr (two.listed k at)) (one.noted k before)) (λ (at : Contains z k). inr at) (two.noted k up);
  up = λ k at. ⊎_elim (λ (before : Contains y k). ⊎_elim (λ (first : Contains x k). inl first) (λ (raised : flag b k ≡ true). inr (two.keeps k raised)) (one.up k before)) (λ (raised : flag c k ≡ true). inr raised) (two.up k at);
  counted = omega (arith, one.counted, two.counted);
}

-- a list with one item more contains what it did, and that item
pub contains_more : (xs : List ℕ) (x k : ℕ) → Contains xs k → Contains (xs ++ x ∷ []) k
contains_more xs x k at = Contains-append_left xs (x ∷ []) k at

pub contains_last : (xs : List ℕ) (x : ℕ) → Contains (xs ++ x ∷ []) x
contains_last xs x = Contains-append_right xs (x ∷ []) x (0, omega arith, refl)

-- and no other
one_at : (x k i : ℕ) → i < 1 → get_or (x ∷ []) i k ≡ k → k ≡ x
one_at x k zero lt e = sym e
one_at x k (suc i) lt e = absurd (omega (arith, lt))

pub contained_more : (xs : List ℕ) (x k : ℕ) → Contains (xs ++ x ∷ []) k → Contains xs k ⊎ (k ≡ x)
contained_more xs x k at =
    ⊎_elim (λ (before : Contains xs k). inl before) (λ (last : Contains (x ∷ []) k). inr (one_at x k last.0 (omega (arith, last.1)) last.2)) (Contains-append_cases xs (x ∷ []) k at)

-- one flag was raised, and its node added to the list
pub raised_one : (flags : List Bool) (listed : List ℕ) (n : ℕ) → n < length flags → flag flags n ≡ false → IsRaised flags (set flags n true) listed (listed ++ n ∷ [])
raised_one flags listed n lt down = record {
  sized = length-set flags n true;
  keeps = λ k up. ⊎_elim (λ (same : k ≡ n). rw same (get_or-set_same flags n true false lt)) (λ (other : k ≡ n → ⊥). rw get_or-set_other up) (same_or k n);
  listed = λ k c. contains_more listed n k c;
  noted = λ k up. ⊎_elim (λ (same : k ≡ n). inr (subst (λ i. Contains (listed ++ n ∷ []) i) (sym same) (contains_last listed n))) (λ (other : k ≡ n → ⊥). inl (rw get_or-set_other at up)) (same_or k n);
  up = λ k c. ⊎_elim (λ (before : Contains listed k). inl before) (λ (same : k ≡ n). inr (rw same (get_or-set_same flags n true false lt))) (contained_more listed n k c);
  counted = omega (arith, down_raised flags n lt down, length-append listed (n ∷ []));
}

module _ (finished old new : List Bool) (xs : List ℕ) (from place : ℕ) (keeps : (k : ℕ) → flag old k ≡ true → flag new k ≡ true) where
  -- who may come next in a list that was led to a place is wanted
  pub led_to : IsBefore finished new xs place → (place < length xs → (flag finished (slice_index xs place) ≡ false) × (flag new (slice_index xs place) ≡ true)) → IsLed finished new false xs
  led_to before stops k next =
      ⊎_elim (λ (no_way : false ≡ true). absurd (cc no_way))
      (λ (each : (j : ℕ) → j < next.0 → flag finished (slice_index xs j) ≡ true).
      elim (dec_lt next.0 place) [
        | yes less ↦ subst (λ i. flag new i ≡ true) next.2 ((before.1 next.0 less).1)
        | no not_less ↦ elim (dec_lt place next.0) [
          | yes more ↦ absurd (let inside : place < length xs = omega (arith, next.1, more) in let clash : true ≡ false = sym (each place more) ∙ (stops inside).0 in cc clash)
          | no not_more ↦
              (let same : place ≡ next.0 = omega arith in
              let inside : place < length xs = omega (arith, next.1, same) in
              subst (λ i. flag new i ≡ true) next.2 (subst (λ i. flag new (slice_index xs i) ≡ true) same (stops inside).1))
        ]
      ])
      next.3

-- what is before a place stays so, as more is wanted
pub before_on : (finished old new : List Bool) (xs : List ℕ) (place : ℕ) → ((k : ℕ) → flag old k ≡ true → flag new k ≡ true) → IsBefore finished old xs place → IsBefore finished new xs place
before_on finished old new xs place keeps before = (before.0, λ j lt. ((before.1 j lt).0, keeps (slice_index xs j) (before.1 j lt).1))

-- a list that is led stays so, as more is wanted
pub led_on : (finished old new : List Bool) (together : Bool) (xs : List ℕ) → ((k : ℕ) → flag old k ≡ true → flag new k ≡ true) → IsLed finished old together xs → IsLed finished new together xs
led_on finished old new together xs keeps led k next = keeps k (led k next)

-- one member more is finished and wanted
pub before_more : (finished old new : List Bool) (xs : List ℕ) (at : ℕ) → ((k : ℕ) → flag old k ≡ true → flag new k ≡ true) → at < length xs → IsBefore finished old xs at → flag finished (slice_index xs at) ≡ true → flag new (slice_index xs at) ≡ true → IsBefore finished new xs (at + 1)
before_more finished old new xs at keeps lt before done raised = (
  omega arith,
  λ j less. ⊎_elim
      (λ (same : j ≡ at). (subst (λ i. flag finished (slice_index xs i) ≡ true) (sym same) done, subst (λ i. flag new (slice_index xs i) ≡ true) (sym same) raised))
      (λ (other : j ≡ at → ⊥). let sooner : j < at = omega (arith, less, other) in ((before.1 j sooner).0, keeps (slice_index xs j) (before.1 j sooner).1))
      (same_or j at),
)

-- only those that may come next were flagged, and so is the member at a place before which all are finished
pub only_more : (finished first old new : List Bool) (xs : List ℕ) (at n : ℕ) → n ≡ slice_index xs at → at < length xs → IsBefore finished old xs at
    → ((k : ℕ) → flag old k ≡ true → (flag first k ≡ true) ⊎ MayFollow finished false xs k)
    → ((k : ℕ) → flag new k ≡ true → (flag old k ≡ true) ⊎ (k ≡ n))
    → (k : ℕ) → flag new k ≡ true → (flag first k ≡ true) ⊎ MayFollow finished false xs k
only_more finished first old new xs at n is lt before so_far now k up =
    ⊎_elim (λ (was : flag old k ≡ true). so_far k was)
    (λ (same : k ≡ n). inr (at, lt, sym (same ∙ is), inr (λ j less. (before.1 j less).0)))
    (now k up)

-- a flag that is up is there
pub flag_within : (flags : List Bool) (k : ℕ) → flag flags k ≡ true → k < length flags
flag_within [] k up = absurd (cc up)
flag_within (b ∷ flags) zero up = omega arith
flag_within (b ∷ flags) (suc k) up = omega (arith, flag_within flags k up)

-- the last of a list of flagged nodes is flagged
pub popped_up : (flags : List Bool) (listed rest : List ℕ) (n : ℕ) → AreUp flags listed → listed ≡ rest ++ n ∷ [] → flag flags n ≡ true
popped_up flags listed rest n up is = up n (subst (λ (xs : List ℕ). Contains xs n) (sym is) (contains_last rest n))

-- the rest of a list of flagged nodes is flagged
pub rest_up : (flags : List Bool) (listed rest : List ℕ) (n : ℕ) → AreUp flags listed → listed ≡ rest ++ n ∷ [] → AreUp flags rest
rest_up flags listed rest n up is k at = up k (subst (λ (xs : List ℕ). Contains xs k) (sym is) (contains_more rest n k at))

-- and is there
pub popped_in : (flags : List Bool) (listed rest : List ℕ) (n count : ℕ) → AreUp flags listed → listed ≡ rest ++ n ∷ [] → length flags ≡ count → n < count
popped_in flags listed rest n count up is sized = omega (arith, flag_within flags n (popped_up flags listed rest n up is), sized)
