-- Which link of a chain of readers was too deep, and that a chain of readers that never are never is.
use Rattle.std.proofs.Common.{◌≡◌, ℕ, zero, suc, ◌<◌, Bool, true, false, if◌then◌else◌, ◌⊎◌, inl, inr, List, [], ◌∷◌, length, Ok, Err, refl, ap, ◌∙◌, subst, ⊎_elim}
use Rattle.just_lang_read.specs.Place.{Place, Rule, AreMany}
use Rattle.just_lang_read.specs.Reader.{Outcome, Reader, and_then, ◌>>=◌, pure, refuse, step, many_in, many}
use Rattle.just_lang_read.specs.declared.error.ReadError.TheVariants.{Depth}
use Rattle.just_lang_read.proofs.Laws.{choose, many_more, many_wrong}
use Rattle.just_lang_syntax.specs.Deep.{IsDeepBehind}
use Rattle.just_lang_syntax.specs.Deep.IsDeepBehind.{behind}

-- what was read isn't too deep
pub shallow_ok : {A : Type 0} (s : A × Place) → Ok s ≡ Err Depth → ⊥
shallow_ok s h = let no : ⊥ = cc (h) in no

-- nor is what is refused at once
pub shallow_refuse : {A : Type 0} (p : Place) → refuse {A = A} p ≡ Err Depth → ⊥
shallow_refuse p h = let no : ⊥ = cc (h) in no

-- a chain that is too deep is so at its first link or behind it
pub depth_either : {A B : Type 0} (r : Outcome A) (f : A → Reader B) → and_then r f ≡ Err Depth
    → (r ≡ Err Depth) ⊎ ((a : A) × (m : Place) × (r ≡ Ok (a, m)) × (f a m ≡ Err Depth))
depth_either (Ok s) f h = inr (s.0, s.1, refl, h)
depth_either {A} (Err e) f h = let same : e ≡ Depth = cc (h) in inl (ap (λ k. Err k) same)

-- behind it where the first link isn't
pub depth_behind : {A B : Type 0} (r : Outcome A) (f : A → Reader B) → (r ≡ Err Depth → ⊥) → and_then r f ≡ Err Depth
    → (a : A) × (m : Place) × (r ≡ Ok (a, m)) × (f a m ≡ Err Depth)
depth_behind r f n h = ⊎_elim (λ (s : _). absurd (n s)) (λ (s : _). s) (depth_either r f h)

-- at its first link where nothing behind it is
pub depth_first : {A B : Type 0} (r : Outcome A) (f : A → Reader B) → ((a : A) (m : Place) → f a m ≡ Err Depth → ⊥) → and_then r f ≡ Err Depth
    → r ≡ Err Depth
depth_first r f n h = ⊎_elim (λ (s : _). s) (λ (s : _). let (a, m, o, k) = s in absurd (n a m k)) (depth_either r f h)

-- a chain of links that aren't too deep isn't
pub shallow_then : {A B : Type 0} (r : Outcome A) (f : A → Reader B) → (r ≡ Err Depth → ⊥) → ((a : A) (m : Place) → f a m ≡ Err Depth → ⊥)
    → and_then r f ≡ Err Depth → ⊥
shallow_then r f n k h = n (depth_first r f k h)

-- nor is one whose rest only gives a value
pub shallow_gives : {A B : Type 0} (r : Outcome A) (f : A → B) → (r ≡ Err Depth → ⊥) → and_then r (λ a. pure (f a)) ≡ Err Depth → ⊥
shallow_gives r f n h = shallow_then r (λ a. pure (f a)) n (λ a m k. shallow_ok (f a, m) k) h

-- a choice between two that aren't too deep isn't
pub shallow_if : {A : Type 0} (b : Bool) (x y : Outcome A) → (x ≡ Err Depth → ⊥) → (y ≡ Err Depth → ⊥) → (if b then x else y) ≡ Err Depth → ⊥
shallow_if true x y n k h = n h
shallow_if false x y n k h = k h

-- ---- loops

module _ {A : Type 0} (more : Place → Bool) (one : Reader A) where
  -- one turn isn't too deep where its reader and the turns behind it aren't
  shallow_step : (others : Reader (List A)) → ((p : Place) → one p ≡ Err Depth → ⊥) → ((p : Place) → others p ≡ Err Depth → ⊥)
      → (p : Place) → step more one others p ≡ Err Depth → ⊥
  shallow_step others n k p h =
      shallow_if (more p) (and_then (one p) (λ x. others >>= (λ xs. pure (x ∷ xs)))) (Ok ([], p))
      (λ i. shallow_then (one p) (λ x. others >>= (λ xs. pure (x ∷ xs))) (n p)
      (λ x m j. shallow_gives (others m) (λ xs. x ∷ xs) (k m) j) i)
      (λ i. shallow_ok ([], p) i) h

  -- nor are as many turns as a bound allows
  shallow_many_in : ((p : Place) → one p ≡ Err Depth → ⊥) → (n : ℕ) (p : Place) → many_in more one n p ≡ Err Depth → ⊥
  shallow_many_in k zero p h = shallow_step refuse k (λ m i. let no : ⊥ = cc (i) in no) p h
  shallow_many_in k (suc n) p h = shallow_step (many_in more one n) k (shallow_many_in k n) p h

  -- a loop over a reader that isn't too deep isn't
  pub shallow_many : ((p : Place) → one p ≡ Err Depth → ⊥) → (p : Place) → many more one p ≡ Err Depth → ⊥
  unfolding many
  shallow_many k p h = shallow_many_in k (length p.rest) p h

module _ {A : Type 0} (more : Place → Bool) (one : Reader A) (Is : Rule A) (Deep : Place → Type 0)
    (reads : (p q : Place) (x : A) → more p ≡ true → one p ≡ Ok (x, q) → Is p q x)
    (deep : (p : Place) → more p ≡ true → one p ≡ Err Depth → Deep p) where
  -- one more in front of what is too deep
  one_more : (p m : Place) (x : A) → Is p m x → IsDeepBehind Is Deep m → IsDeepBehind Is Deep p
  one_more p m x i (behind n xs are d) = behind n (x ∷ xs) (m, i, are) d

  -- one turn that is too deep is such a chain, if the turns behind it are
  deep_turn : (others : Reader (List A)) → ((p : Place) → others p ≡ Err Depth → IsDeepBehind Is Deep p)
      → (p : Place) → step more one others p ≡ Err Depth → IsDeepBehind Is Deep p
  deep_turn others k p h =
      ⊎_elim
      (λ (s : _).
      ⊎_elim (λ (t : _). behind p [] refl (deep p s.0 t))
      (λ (t : _).
      let (x, m, o, j) = t in
      one_more p m x (reads p m x s.0 o) (k m (depth_first (others m) (λ xs. pure (x ∷ xs)) (λ xs n i. shallow_ok (x ∷ xs, n) i) j)))
      (depth_either (one p) (λ x. others >>= (λ xs. pure (x ∷ xs))) s.1))
      (λ (s : _). absurd (shallow_ok ([], p) s.1))
      (choose (more p) (and_then (one p) (λ x. others >>= (λ xs. pure (x ∷ xs)))) (Ok ([], p)) (Err Depth) h)

  -- as many turns as a bound allows that are too deep are such a chain
  deep_in : (n : ℕ) (p : Place) → many_in more one n p ≡ Err Depth → IsDeepBehind Is Deep p
  deep_in zero p h = deep_turn refuse (λ m i. absurd (let no : ⊥ = cc (i) in no)) p h
  deep_in (suc n) p h = deep_turn (many_in more one n) (deep_in n) p h

  -- a loop that is too deep has read some, and one more begins behind them that is too deep
  pub many_deep_ok : (p : Place) → many more one p ≡ Err Depth → IsDeepBehind Is Deep p
  unfolding many
  many_deep_ok p h = deep_in (length p.rest) p h

module _ {A : Type 0} (more : Place → Bool) (one : Reader A)
    (shorter : (p q : Place) (x : A) → more p ≡ true → one p ≡ Ok (x, q) → length q.rest < length p.rest) (Is : Rule A) (Deep : Place → Type 0)
    (again : (p q : Place) (x : A) → Is p q x → (more p ≡ true) × (one p ≡ Ok (x, q)))
    (deep : (p : Place) → Deep p → (more p ≡ true) × (one p ≡ Err Depth)) where
  -- a chain before one that is too deep is refused so
  deep_chain : (p m : Place) (xs : List A) → AreMany Is p m xs → Deep m → many more one p ≡ Err Depth
  deep_chain p m [] e d = let k = deep p (subst Deep e d) in many_wrong more one shorter p Depth k.0 k.1
  deep_chain p m (x ∷ xs) (n, i, are) d =
      let k = again p n x i in
      many_more more one shorter p n x k.0 k.1 ∙ rw (deep_chain n m xs are d) refl

  -- where some stand and behind them one that is too deep, the loop is too deep
  pub many_deep_again : (p : Place) → IsDeepBehind Is Deep p → many more one p ≡ Err Depth
  many_deep_again p (behind m xs are d) = deep_chain p m xs are d
