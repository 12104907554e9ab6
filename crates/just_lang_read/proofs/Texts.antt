-- Texts that come first: their first characters, and what is left behind them.
use Rattle.std.proofs.Common.{◌≡◌, ℕ, ◌<◌, ◌≤◌, ◌==◌, Bool, true, false, ◌&&◌, List, [], ◌∷◌, length, Some, refl, sym, ap, ◌∙◌, arith}
use Rattle.std.proofs.lemmas.Bool.{false≢true}
use Rattle.just_lang_read.specs.Place.{Place, next, first, first_in, passes, starts, begins, begins_in, behind_text, is_end, is_empty}
use Rattle.just_lang_read.proofs.Steps.{starts_at, next_shorter, next_end}

-- both of two tests that hold together hold
pub and_true : (a b : Bool) → (a && b) ≡ true → (a ≡ true) × (b ≡ true)
and_true true b h = (refl, h)
and_true false b h = absurd (false≢true h)

-- the first character of a text that a list begins with
first_of : (c : ℕ) (text rest : List ℕ) → begins_in (c ∷ text) rest ≡ true → first_in rest ≡ Some c
first_of c text [] h = absurd (false≢true h)
first_of c text (d ∷ rest) h = let e = (and_true (d == c) (begins_in text rest) h).0 in let k : d ≡ c = grind (arith) in rw k refl

-- the first character of a text that comes first
pub begins_first : (c : ℕ) (text : List ℕ) (p : Place) → begins (c ∷ text) p ≡ true → first p ≡ Some c
begins_first c text p h = first_of c text p.rest h

-- what a test says of it
pub begins_starts : (t : ℕ → Bool) (c : ℕ) (text : List ℕ) (p : Place) → begins (c ∷ text) p ≡ true → starts t p ≡ t c
begins_starts t c text p h = starts_at t p c (begins_first c text p h)

-- a list that begins with another character doesn't begin with a text
other_of : (c d : ℕ) (text rest : List ℕ) → first_in rest ≡ Some c → (c == d) ≡ false → begins_in (d ∷ text) rest ≡ false
other_of c d text [] h n = refl
other_of c d text (x ∷ rest) h n = let k : x ≡ c = cc in rw (k, n) refl

-- where another character comes first a text doesn't
pub begins_other : (c d : ℕ) (text : List ℕ) (p : Place) → first p ≡ Some c → (c == d) ≡ false → begins (d ∷ text) p ≡ false
begins_other c d text p h n = other_of c d text p.rest h n

-- nor one whose first character passes a test which the text's doesn't
not_first : (t : ℕ → Bool) (d : ℕ) (text rest : List ℕ) → passes t (first_in rest) ≡ true → t d ≡ false → begins_in (d ∷ text) rest ≡ false
not_first t d text [] h n = refl
not_first t d text (x ∷ rest) h n = other_test t x d (begins_in text rest) h n
  where
    -- by whether the two characters are one
    split : (b : Bool) (t : ℕ → Bool) (x d : ℕ) (more : Bool) → (x == d) ≡ b → t x ≡ true → t d ≡ false → (b && more) ≡ false
    split true t x d more e h n = let k : x ≡ d = grind (arith) in absurd (false≢true (sym n ∙ ap t (sym k) ∙ h))
    split false t x d more e h n = refl

    -- characters of which a test says different things are different
    other_test : (t : ℕ → Bool) (x d : ℕ) (more : Bool) → t x ≡ true → t d ≡ false → ((x == d) && more) ≡ false
    other_test t x d more h n = split (x == d) t x d more refl h n

-- nor where a character comes first that passes a test which its own doesn't
pub starts_other : (t : ℕ → Bool) (d : ℕ) (text : List ℕ) (p : Place) → starts t p ≡ true → t d ≡ false → begins (d ∷ text) p ≡ false
starts_other t d text p h n = not_first t d text p.rest h n

-- ---- what is left

-- a character is itself
pub same : (c : ℕ) → (c == c) ≡ true
same c = grind (arith)

-- at the end of the text a step stays, over lists
ended : (rest : List ℕ) (p : Place) → p.rest ≡ rest → is_empty rest ≡ true → next p ≡ p
ended [] p e h = next_end p e
ended (c ∷ rest) p e h = absurd (false≢true h)

-- at the end of the text a step stays
end_stays : (p : Place) → is_end p ≡ true → next p ≡ p
end_stays p h = ended p.rest p refl h

-- before the end of the text a step takes a character, over lists
taken : (rest : List ℕ) (p : Place) → p.rest ≡ rest → is_empty rest ≡ false → length (next p).rest < length p.rest
taken [] p e h = absurd (false≢true (sym h))
taken (c ∷ rest) p e h = next_shorter (λ d. d == c) p (ap (λ (r : List ℕ). passes (λ d. d == c) (first_in r)) e ∙ same c)

-- before the end of the text a step takes a character
pub next_takes : (p : Place) → is_end p ≡ false → length (next p).rest < length p.rest
next_takes p h = taken p.rest p refl h

-- a step takes nothing back, at the end or before it
next_in_le : (b : Bool) (p : Place) → is_end p ≡ b → length (next p).rest ≤ length p.rest
next_in_le true p e = let k = end_stays p e in rw k (omega arith)
next_in_le false p e = let k = next_takes p e in omega arith

-- a step takes nothing back
pub next_le : (p : Place) → length (next p).rest ≤ length p.rest
next_le p = next_in_le (is_end p) p refl

-- nor a text
pub behind_le : (text : List ℕ) (p : Place) → length (behind_text text p).rest ≤ length p.rest
behind_le [] p = omega arith
behind_le (c ∷ text) p = omega (arith, behind_le text (next p), next_le p)

-- a text that comes first takes a character
pub behind_shorter : (c : ℕ) (text : List ℕ) (p : Place) → begins (c ∷ text) p ≡ true → length (behind_text (c ∷ text) p).rest < length p.rest
behind_shorter c text p h =
    let step : length (next p).rest < length p.rest = next_shorter (λ d. d == c) p (begins_starts (λ d. d == c) c text p h ∙ same c) in
    omega (arith, behind_le text (next p))
