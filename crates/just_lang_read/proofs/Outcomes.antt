-- Outcomes of readers: what the success of a chain says of its links, and of one character.
use Rattle.std.proofs.Common.{◌≡◌, ℕ, Bool, true, false, if◌then◌else◌, ◌⊎◌, inl, inr, Ok, Err, refl, ap, ⊎_elim}
use Rattle.just_lang_read.specs.Place.{Place, next, sees, IsCharacter}
use Rattle.just_lang_read.specs.Reader.{Outcome, Reader, and_then, pure, expect}
use Rattle.just_lang_read.specs.declared.error.ReadError.TheVariants.{Syntax}

-- a chain that succeeds did so at its first link, and goes on from there
pub bind_ok : {A B : Type 0} (r : Outcome A) (f : A → Reader B) (y : B) (q : Place) → and_then r f ≡ Ok (y, q)
    → (a : A) × (m : Place) × (r ≡ Ok (a, m)) × (f a m ≡ Ok (y, q))
bind_ok (Ok s) f y q h = (s.0, s.1, refl, h)
bind_ok (Err e) f y q h = absurd (let no : ⊥ = cc in no)

-- a choice that gives z took one of its two ways
pub choose : {X : Type 0} (b : Bool) (x y z : X) → (if b then x else y) ≡ z → ((b ≡ true) × (x ≡ z)) ⊎ ((b ≡ false) × (y ≡ z))
choose true x y z h = inl (refl, h)
choose false x y z h = inr (refl, h)

-- a reader that takes nothing gives its value
pub ok_value : {A : Type 0} (a b : A) (p q : Place) → pure a p ≡ Ok (b, q) → a ≡ b
ok_value {A} a b p q h = let both : (a, p) ≡ (b, q) = cc in ap (λ (s : A × Place). s.0) both

-- and stays where it is
pub ok_place : {A : Type 0} (a b : A) (p q : Place) → pure a p ≡ Ok (b, q) → p ≡ q
ok_place {A} a b p q h = let both : (a, p) ≡ (b, q) = cc in ap (λ (s : A × Place). s.1) both

-- a reader that succeeds at a place gives one value
pub one_value : {A : Type 0} (r : Outcome A) (a b : A) (p q : Place) → r ≡ Ok (a, p) → r ≡ Ok (b, q) → a ≡ b
one_value {A} r a b p q h k = let e : pure a p ≡ Ok (b, q) = cc in ok_value a b p q e

-- and ends at one place
pub one_place : {A : Type 0} (r : Outcome A) (a b : A) (p q : Place) → r ≡ Ok (a, p) → r ≡ Ok (b, q) → p ≡ q
one_place {A} r a b p q h k = let e : pure a p ≡ Ok (b, q) = cc in ok_place a b p q e

-- a character that is read stands there
pub expect_ok : (c : ℕ) (p : Place) (u : Unit {0}) (q : Place) → expect c p ≡ Ok (u, q) → IsCharacter c p q
unfolding expect
expect_ok c p u q h =
    ⊎_elim (λ (s : _). (s.0, ok_place u tt q (next p) (let e : pure u q ≡ Ok (tt, next p) = cc in e)))
    (λ (s : _). absurd (let no : ⊥ = cc (s.1) in no))
    (choose (sees c p) (Ok (tt, next p)) (Err Syntax) (Ok (u, q)) h)

-- and one that stands there is read
pub expect_again : (c : ℕ) (p q : Place) → IsCharacter c p q → expect c p ≡ Ok (tt, q)
unfolding expect
expect_again c p q s = rw (s.0, s.1) refl
