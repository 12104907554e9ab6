-- A project that breaks no rule breaks none of any kind.
use Rattle.std.proofs.Common.{ℕ, zero, suc, ◌<◌, inl, inr, List, [], ◌∷◌, length, get_or, None, arith}
use Rattle.just_lang_types.specs.declared.error.CompileKind.{CompileKind}
use Rattle.just_lang_types.specs.declared.error.CompileKind.TheVariants as kind
use Rattle.just_lang_layout.specs.declared.layout.Layout.{Layout}
use Rattle.just_lang_layout.specs.Paths.{Pairs}
use Rattle.just_lang_spots.specs.declared.spot.Spot.{Spot}
use Rattle.just_lang_spots.specs.Standing.{Wins}
use Rattle.just_lang.specs.Cycles.{IsFirstSpot, IsCircularVariable, IsCircularRecipe}
use Rattle.just_lang.specs.Errors.{BreaksNone}
use Rattle.just_lang.specs.Order.{IsFirstBroken}
use Rattle.just_lang.specs.Rules.{kinds, Breaks, IsFirstRule}

-- none of some kinds is broken: none of them at any place
none_at : (breaks : CompileKind → Spot → Type 0) (ks : List CompileKind) (i : ℕ) (k : CompileKind) → i < length ks → IsFirstBroken breaks ks None → IsFirstSpot (breaks (get_or ks i k)) None
none_at breaks [] i k h none = absurd (omega (arith, h))
none_at breaks (x ∷ xs) zero k h none =
    elim none [
      | inl here ↦ let some = here.2 in absurd (cc)
      | inr rest ↦ rest.0
    ]
none_at breaks (x ∷ xs) (suc i) k h none =
    elim none [
      | inl here ↦ let some = here.2 in absurd (cc)
      | inr rest ↦ none_at breaks xs i k (omega (arith, h)) rest.1
    ]

module _ (environ : Pairs) (wins : Wins) (layout : Layout) (none : BreaksNone environ wins layout) where
  -- the places where the library says that patterns are too big
  pub big_in : List Spot
  unfolding IsFirstRule
  big_in = none.rules.0

  -- the rule of the kind at each place of the list is broken nowhere
  pub unbroken : (i : ℕ) → i < length kinds → IsFirstSpot (Breaks environ wins layout big_in (get_or kinds i kind.Syntax)) None
  unfolding IsFirstRule big_in
  unbroken i h = none_at (Breaks environ wins layout none.rules.0) kinds i kind.Syntax h none.rules.2

  pub no_circular_variable : IsFirstSpot (IsCircularVariable wins layout) None
  no_circular_variable = unbroken 20 (omega arith)

  pub no_circular_recipe : IsFirstSpot (IsCircularRecipe wins layout) None
  no_circular_recipe = unbroken 21 (omega arith)
