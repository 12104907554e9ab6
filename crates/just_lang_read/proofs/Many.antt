-- The loop over readers: its bound doesn't matter, and it reads exactly the chains.
use Rattle.std.proofs.Common.{◌≡◌, ℕ, zero, suc, ◌<◌, ◌≤◌, Bool, true, false, if◌then◌else◌, List, [], ◌∷◌, length, Ok, Err, refl, sym, ap, ◌∙◌, subst, ⊎_elim, arith}
use Rattle.just_lang_read.specs.Place.{Place, Rule, AreMany}
use Rattle.just_lang_read.specs.Reader.{Outcome, Reader, and_then, pure, refuse, ◌>>=◌, step, many_in, many}
use Rattle.just_lang_read.specs.declared.error.ReadError.{ReadError}
use Rattle.just_lang_read.proofs.Outcomes.{bind_ok, choose, ok_value, ok_place}

-- two turns of the loop give the same where what follows them does
same_step : {A : Type 0} (R S : Reader (List A)) (p : Place) (b : Bool) (o : Outcome A)
    → ((x : A) (q : Place) → b ≡ true → o ≡ Ok (x, q) → R q ≡ S q)
    → (if b then and_then o (λ x. R >>= (λ xs. pure (x ∷ xs))) else Ok ([], p)) ≡ (if b then and_then o (λ x. S >>= (λ xs. pure (x ∷ xs))) else Ok ([], p))
same_step R S p false o h = refl
same_step R S p true (Err e) h = refl
same_step {A} R S p true (Ok s) h = ap (λ (r : Outcome (List A)). and_then r (λ xs. pure (s.0 ∷ xs))) (h s.0 s.1 refl refl)

module _ {A : Type 0} (more : Place → Bool) (one : Reader A)
    (shorter : (p q : Place) (x : A) → more p ≡ true → one p ≡ Ok (x, q) → length q.rest < length p.rest) where
  -- two bounds that are enough give the same
  same_in : (m n : ℕ) (p : Place) → length p.rest ≤ m → length p.rest ≤ n → many_in more one m p ≡ many_in more one n p
  same_in zero zero p a b = refl
  same_in zero (suc n) p a b = same_step refuse (many_in more one n) p (more p) (one p) (λ x q h o. absurd (omega (arith, shorter p q x h o)))
  same_in (suc m) zero p a b = same_step (many_in more one m) refuse p (more p) (one p) (λ x q h o. absurd (omega (arith, shorter p q x h o)))
  same_in (suc m) (suc n) p a b =
      same_step (many_in more one m) (many_in more one n) p (more p) (one p)
      (λ x q h o. same_in m n q (omega (arith, shorter p q x h o)) (omega (arith, shorter p q x h o)))

  -- the loop is one turn, and then the loop
  pub many_is : (p : Place) → many more one p ≡ step more one (many more one) p
  unfolding many
  many_is p =
      same_in (length p.rest) (suc (length p.rest)) p (omega arith) (omega arith)
      ∙ same_step (many_in more one (length p.rest)) (λ q. many_in more one (length q.rest) q) p (more p) (one p)
      (λ x q h o. same_in (length p.rest) (length q.rest) q (omega (arith, shorter p q x h o)) (omega arith))

  -- where no more begins, the list is empty
  pub many_end : (p : Place) → more p ≡ false → many more one p ≡ Ok ([], p)
  many_end p h = many_is p ∙ rw h refl

  -- where one more is read, the list is that one and those from behind it
  pub many_more : (p q : Place) (x : A) → more p ≡ true → one p ≡ Ok (x, q) → many more one p ≡ and_then (many more one q) (λ xs. pure (x ∷ xs))
  many_more p q x h o = many_is p ∙ rw (h, o) refl

  -- where one more begins that isn't read, the list is refused as it is
  pub many_wrong : (p : Place) (e : ReadError) → more p ≡ true → one p ≡ Err e → many more one p ≡ Err e
  many_wrong p e h o = many_is p ∙ rw (h, o) refl

  -- a chain that ends where no more begins is read whole
  pub many_again : (Is : Rule A) → ((p q : Place) (x : A) → Is p q x → (more p ≡ true) × (one p ≡ Ok (x, q)))
      → (p q : Place) (xs : List A) → AreMany Is p q xs → more q ≡ false → many more one p ≡ Ok (xs, q)
  many_again Is again p q [] e h = let f : more p ≡ false = ap more (sym e) ∙ h in many_end p f ∙ rw e refl
  many_again Is again p q (x ∷ xs) (m, i, rest) h =
      let k = again p m x i in
      many_more p m x k.0 k.1 ∙ rw (many_again Is again m q xs rest h) refl

-- soundness: what is read is such a chain, and no more begins behind it
module _ {A : Type 0} (more : Place → Bool) (one : Reader A) (Is : Rule A)
    (reads : (p q : Place) (x : A) → more p ≡ true → one p ≡ Ok (x, q) → Is p q x) where
  -- where one turn gives a list, that is a chain with no more behind it, if the list behind its first one is
  turn : (others : Reader (List A))
      → ((p q : Place) (xs : List A) → others p ≡ Ok (xs, q) → AreMany Is p q xs × (more q ≡ false))
      → (p q : Place) (xs : List A) → step more one others p ≡ Ok (xs, q) → AreMany Is p q xs × (more q ≡ false)
  turn others rest p q xs h =
      ⊎_elim
      (λ (s : _).
      let (x, m, o, k) = bind_ok (one p) _ xs q s.1 in
      let (ys, n, r, j) = bind_ok (others m) _ xs q k in
      let e : x ∷ ys ≡ xs = ok_value (x ∷ ys) xs n q j in
      let f : n ≡ q = ok_place (x ∷ ys) xs n q j in
      let (are, done) = rest m n ys r in
      subst (λ (l : List A). AreMany Is p q l × (more q ≡ false)) e
      (subst (λ (l : Place). AreMany Is p l (x ∷ ys) × (more l ≡ false)) f ((m, reads p m x s.0 o, are), done)))
      (λ (s : _).
      let e : [] ≡ xs = ok_value [] xs p q s.1 in
      let f : p ≡ q = ok_place [] xs p q s.1 in
      subst (λ (l : List A). AreMany Is p q l × (more q ≡ false)) e (sym f, ap more (sym f) ∙ s.0))
      (choose (more p) (and_then (one p) (λ x. others >>= (λ xs. pure (x ∷ xs)))) (Ok ([], p)) (Ok (xs, q)) h)

  -- what the loop with that bound gives is such a chain
  many_in_ok : (n : ℕ) (p q : Place) (xs : List A) → many_in more one n p ≡ Ok (xs, q) → AreMany Is p q xs × (more q ≡ false)
  many_in_ok zero p q xs h = turn refuse (λ m n ys k. absurd (let no : ⊥ = cc in no)) p q xs h
  many_in_ok (suc n) p q xs h = turn (many_in more one n) (many_in_ok n) p q xs h

  -- what the loop gives is a chain, and no more begins behind it
  pub many_ok : (p q : Place) (xs : List A) → many more one p ≡ Ok (xs, q) → AreMany Is p q xs × (more q ≡ false)
  unfolding many
  many_ok p q xs h = many_in_ok (length p.rest) p q xs h
