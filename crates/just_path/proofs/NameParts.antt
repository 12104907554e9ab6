-- Where a name is parted, by the place of a dot.
use Rattle.std.proofs.Common.{◌≡◌, ◌≢◌, ℕ, zero, suc, ◌+◌, ◌<◌, true, false, eqb, cond, Some, None, List, [], ◌∷◌, length, get_or, take, drop, refl, sym, ap, ◌∙◌, arith, add-one}
use Rattle.std.proofs.lemmas.Bool.{ne_eqb}
use Rattle.just_path.specs.Names.{parts_at_last_dot, unless_first, name_parts, before_dot, prefix_of}

-- a text without a dot has no last dot
no_dot : (n : List ℕ) → ((k : ℕ) → k < length n → get_or n k 0 ≢ 46) → parts_at_last_dot n ≡ None
no_dot [] h = refl
no_dot (b ∷ bs) h =
    let e : eqb b 46 ≡ false = ne_eqb b 46 (h 0 (omega arith)) in
    rw (no_dot bs (λ k l. h (suc k) (omega arith)), e) refl

-- the place of the last dot parts a text at its last dot
last_dot_at : (n : List ℕ) (i : ℕ) → i < length n → get_or n i 0 ≡ 46 → ((k : ℕ) → i < k → k < length n → get_or n k 0 ≢ 46) → parts_at_last_dot n ≡ Some (take i n, drop (suc i) n)
last_dot_at [] i l e h = absurd (omega arith)
last_dot_at (b ∷ bs) zero l e h =
    let f : eqb b 46 ≡ true = rw e refl in
    rw (no_dot bs (λ k m. h (suc k) (omega arith) (omega arith)), f) refl
last_dot_at (b ∷ bs) (suc i) l e h =
    rw (last_dot_at bs i (omega arith) e (λ k m n. h (suc k) (omega arith) (omega arith))) refl

-- the same of a name, whose first byte does not count
pub name_parts_at : (n : List ℕ) (i : ℕ) → 0 < i → i < length n → get_or n i 0 ≡ 46 → ((k : ℕ) → i < k → k < length n → get_or n k 0 ≢ 46) → name_parts n ≡ Some (take i n, drop (i + 1) n)
unfolding name_parts
name_parts_at [] i p l e h = absurd (omega arith)
name_parts_at (b ∷ bs) zero p l e h = absurd (omega arith)
name_parts_at (b ∷ bs) (suc i) p l e h = ap unless_first (last_dot_at (b ∷ bs) (suc i) l e h) ∙ ap (λ k. Some (b ∷ take i bs, drop k (b ∷ bs))) (sym (add-one (suc i)))

-- a name without a dot but in front has no parts
pub name_parts_none : (n : List ℕ) → ((k : ℕ) → 0 < k → k < length n → get_or n k 0 ≢ 46) → name_parts n ≡ None
unfolding name_parts
name_parts_none [] h = refl
name_parts_none (b ∷ bs) h =
    rw (no_dot bs (λ k l. h (suc k) (omega arith) (omega arith)))
    (elim (eqb b 46) as (λ v. unless_first (cond v (Some ([], bs)) None) ≡ None) [ true ↦ refl | false ↦ refl ])

-- the place of the first dot ends what stands before the first dot
before_at : (bs : List ℕ) (i : ℕ) → i < length bs → get_or bs i 0 ≡ 46 → ((k : ℕ) → k < i → get_or bs k 0 ≢ 46) → take i bs ≡ before_dot bs
before_at [] i l e h = absurd (omega arith)
before_at (b ∷ bs) zero l e h = let f : eqb b 46 ≡ true = rw e refl in rw f refl
before_at (b ∷ bs) (suc i) l e h =
    let f : eqb b 46 ≡ false = ne_eqb b 46 (h 0 (omega arith)) in
    rw (f, before_at bs i (omega arith) e (λ k m. h (suc k) (omega arith))) refl

-- a text without a dot stands before it whole
before_none : (bs : List ℕ) → ((k : ℕ) → k < length bs → get_or bs k 0 ≢ 46) → bs ≡ before_dot bs
before_none [] h = refl
before_none (b ∷ bs) h =
    let f : eqb b 46 ≡ false = ne_eqb b 46 (h 0 (omega arith)) in
    rw (f, ← before_none bs (λ k m. h (suc k) (omega arith))) refl

-- the place of the first dot behind the first byte ends the prefix
pub prefix_at : (n : List ℕ) (i : ℕ) → 0 < i → i < length n → get_or n i 0 ≡ 46 → ((k : ℕ) → 0 < k → k < i → get_or n k 0 ≢ 46) → take i n ≡ prefix_of n
prefix_at [] i p l e h = absurd (omega arith)
prefix_at (b ∷ bs) zero p l e h = absurd (omega arith)
prefix_at (b ∷ bs) (suc i) p l e h = ap (λ r. b ∷ r) (before_at bs i (omega arith) e (λ k m. h (suc k) (omega arith) (omega arith)))

-- a name without a dot but in front is its own prefix
pub prefix_none : (n : List ℕ) → ((k : ℕ) → 0 < k → k < length n → get_or n k 0 ≢ 46) → n ≡ prefix_of n
prefix_none [] h = refl
prefix_none (b ∷ bs) h = ap (λ r. b ∷ r) (before_none bs (λ k m. h (suc k) (omega arith) (omega arith)))
