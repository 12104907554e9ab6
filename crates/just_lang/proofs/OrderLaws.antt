-- The first broken rule of kinds one behind the other, and of lists of places.
use Rattle.std.proofs.Common.{◌≡◌, ◌<◌, inl, inr, List, [], ◌∷◌, ◌++◌, length, map, false, Option, Some, None, refl, ap, subst, arith}
use Rattle.std.specs.List.{Contains, AllByRecursion as ByRecursion}
use Rattle.just_lang_types.specs.declared.error.CompileKind.{CompileKind}
use Rattle.just_lang_spots.specs.declared.spot.Spot.{Spot}
use Rattle.just_lang_spots.specs.Spots.{comes_before, first_spot, IsFirstOf}
use Rattle.just_lang_spots.proofs.Least.{first_is}
use Rattle.just_lang_rulebook.specs.declared.broken.Broken.{Broken}
use Rattle.just_lang_rulebook.specs.First.{Asked, broken_at, or_behind, first_broken}
use Rattle.just_lang.specs.Cycles.{IsFirstSpot}
use Rattle.just_lang.specs.Order.{IsFirstBroken}

-- ---- places

-- the first of the places of a list is the first of a set that has the same places
spot_of : (P : Spot → Type 0) (spots : List Spot) → ((s : Spot) → P s → Contains spots s) → ((s : Spot) → Contains spots s → P s) → (o : Option Spot) → IsFirstOf spots o → IsFirstSpot P o
unfolding IsFirstSpot
spot_of P spots to from None e =
    λ s p.
    let c = to s p in
    let less : c.0 < length spots = c.1 in
    let size : length spots ≡ 0 = ap length e in
    omega (arith, less, size)
spot_of P spots to from (Some s) h = (
  from s h.0,
  λ other p.
      let c = to other p in
      subst (λ (x : Spot). comes_before x s ≡ false) c.2 (h.1 c.0 other c.1),
)

pub listed_spot : (P : Spot → Type 0) (spots : List Spot) → ((s : Spot) → P s → Contains spots s) → ((s : Spot) → Contains spots s → P s) → IsFirstSpot P (first_spot spots)
listed_spot P spots to from = spot_of P spots to from (first_spot spots) (first_is spots)

module _ (breaks : CompileKind → Spot → Type 0) where
  -- ---- kinds one behind the other

  pub front_broken : (xs ys : List CompileKind) (b : Broken) → IsFirstBroken breaks xs (Some b) → IsFirstBroken breaks (xs ++ ys) (Some b)
  front_broken [] ys b h = absurd (cc)
  front_broken (x ∷ xs) ys b h =
      elim h [
        | inl here ↦ inl here
        | inr rest ↦ inr (rest.0, front_broken xs ys b rest.1)
      ]

  pub behind_broken : (xs ys : List CompileKind) (answer : Option Broken) → IsFirstBroken breaks xs None → IsFirstBroken breaks ys answer → IsFirstBroken breaks (xs ++ ys) answer
  behind_broken [] ys answer none h = h
  behind_broken (x ∷ xs) ys answer none h =
      elim none [
        | inl here ↦ let some = here.2 in absurd (cc)
        | inr rest ↦ inr (rest.0, behind_broken xs ys answer rest.1 h)
      ]

  -- ---- rules with lists of places

  -- the listed places are those where the rule is broken
  abbrev pub IsListed : Asked → Type 0
  IsListed a = ((s : Spot) → breaks a.0 s → Contains a.1 s) × ((s : Spot) → Contains a.1 s → breaks a.0 s)

  pub listed : (asked : List Asked) → ByRecursion IsListed asked → IsFirstBroken breaks (map (λ a. a.0) asked) (first_broken asked)
  listed [] all = refl
  listed (a ∷ more) all =
      elim (first_spot a.1) as (λ o. IsFirstSpot (breaks a.0) o → IsFirstBroken breaks (a.0 ∷ map (λ x. x.0) more) (or_behind (broken_at a.0 o) (first_broken more))) [
        | None ↦ λ h. inr (h, listed more all.1)
        | Some s ↦ λ h. inl (s, h, refl)
      ] (listed_spot (breaks a.0) a.1 all.0.0 all.0.1)
