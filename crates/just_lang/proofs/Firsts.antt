-- The first of the places of two sets is the earlier of their first ones.
use Rattle.std.proofs.Common.{◌≡◌, ℕ, ◌⊎◌, inl, inr, Bool, true, false, Option, Some, None, refl, arith}
use Rattle.std.specs.Prelude.{nat_lt, if◌then◌else◌}
use Rattle.just_lang_spots.specs.declared.spot.Spot.{Spot}
use Rattle.just_lang_spots.specs.Spots.{comes_before, earlier}
use Rattle.just_lang_spots.proofs.Spots.{lex, not_before_trans}
use Rattle.just_lang.specs.Cycles.{IsFirstSpot}

lex_back : (m n : ℕ) (p q : Bool) → (p ≡ true → q ≡ false) → lex m n p ≡ true → lex n m q ≡ false
lex_back m n p q inner h = grind arith

lt_back : (m n : ℕ) → nat_lt m n ≡ true → nat_lt n m ≡ false
lt_back m n h = grind arith

before_back : (a b : Spot) → comes_before a b ≡ true → comes_before b a ≡ false
before_back a b h =
    lex_back a.file b.file (lex a.line b.line (nat_lt a.column b.column)) (lex b.line a.line (nat_lt b.column a.column))
    (lex_back a.line b.line (nat_lt a.column b.column) (nat_lt b.column a.column) (lt_back a.column b.column)) h

module _ (P Q R : Spot → Type 0) (left : (s : Spot) → P s → R s) (right : (s : Spot) → Q s → R s) (both : (s : Spot) → R s → P s ⊎ Q s) where
  earlier_of : (a b : Spot) → IsFirstSpot P (Some a) → IsFirstSpot Q (Some b) → IsFirstSpot R (earlier (Some a) (Some b))
  unfolding IsFirstSpot
  earlier_of a b p q =
      elim (comes_before b a) as (λ t. comes_before b a ≡ t → IsFirstSpot R (if t then Some b else Some a)) [
        | true ↦ λ before. (
          right b q.0,
          λ other r.
              elim (both other r) [
                | inl x ↦ not_before_trans b a other (p.1 other x) (before_back b a before)
                | inr x ↦ q.1 other x
              ],
        )
        | false ↦ λ before. (
          left a p.0,
          λ other r.
              elim (both other r) [
                | inl x ↦ p.1 other x
                | inr x ↦ not_before_trans a b other (q.1 other x) before
              ],
        )
      ] refl

  -- one of the sets has no place
  pub first_of_two : (a b : Option Spot) → IsFirstSpot P a → IsFirstSpot Q b → IsFirstSpot R (earlier a b)
  unfolding IsFirstSpot
  first_of_two None None p q =
      λ s r.
      elim (both s r) [
        | inl x ↦ p s x
        | inr x ↦ q s x
      ]
  first_of_two None (Some b) p q = (
    right b q.0,
    λ other r.
        elim (both other r) [
          | inl x ↦ absurd (p other x)
          | inr x ↦ q.1 other x
        ],
  )
  first_of_two (Some a) None p q = (
    left a p.0,
    λ other r.
        elim (both other r) [
          | inl x ↦ p.1 other x
          | inr x ↦ absurd (q other x)
        ],
  )
  first_of_two (Some a) (Some b) p q = earlier_of a b p q
