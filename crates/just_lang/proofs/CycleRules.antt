-- The rules on what leads back to itself.
use Rattle.std.proofs.Common.{◌≡◌, inl, inr, Option, Some, None, refl, subst}
use Rattle.just_lang_types.specs.declared.error.CompileKind.TheVariants as kind
use Rattle.just_lang_layout.specs.declared.layout.Layout.{Layout}
use Rattle.just_lang_spots.specs.declared.spot.Spot.{Spot}
use Rattle.just_lang_spots.specs.Standing.{Wins}
use Rattle.just_lang_rulebook.specs.declared.broken.Broken.{Broken}
use Rattle.just_lang_rulebook.specs.First.{broken_at}
use Rattle.just_lang.specs.Cycles.{IsFirstSpot, IsCircularVariable, IsCircularRecipe}
use Rattle.just_lang.specs.Rules.{IsFirstCircular}

-- a variable does
pub variable_found : (wins : Wins) (layout : Layout) (v : Option Spot) (s : Spot) (answer : Option Broken) → IsFirstSpot (IsCircularVariable wins layout) v → v ≡ Some s
    → answer ≡ broken_at kind.CircularVariable (Some s) → IsFirstCircular wins layout answer
unfolding IsFirstCircular IsFirstSpot
variable_found wins layout v s answer h e k = λ environ big. inl (s, subst (λ (o : Option Spot). IsFirstSpot (IsCircularVariable wins layout) o) e h, k)

-- no variable does, and a recipe does
pub recipe_found : (wins : Wins) (layout : Layout) (v r : Option Spot) (s : Spot) (answer : Option Broken) → IsFirstSpot (IsCircularVariable wins layout) v → v ≡ None
    → IsFirstSpot (IsCircularRecipe wins layout) r → r ≡ Some s → answer ≡ broken_at kind.CircularRecipe (Some s) → IsFirstCircular wins layout answer
unfolding IsFirstCircular IsFirstSpot
recipe_found wins layout v r s answer h e g f k =
    λ environ big.
    inr (subst (λ (o : Option Spot). IsFirstSpot (IsCircularVariable wins layout) o) e h, inl (s, subst (λ (o : Option Spot). IsFirstSpot (IsCircularRecipe wins layout) o) f g, k))

-- nothing does
pub none_found : (wins : Wins) (layout : Layout) (v r : Option Spot) → IsFirstSpot (IsCircularVariable wins layout) v → v ≡ None → IsFirstSpot (IsCircularRecipe wins layout) r → r ≡ None
    → IsFirstCircular wins layout None
unfolding IsFirstCircular IsFirstSpot
none_found wins layout v r h e g f =
    λ environ big.
    inr (subst (λ (o : Option Spot). IsFirstSpot (IsCircularVariable wins layout) o) e h, inr (subst (λ (o : Option Spot). IsFirstSpot (IsCircularRecipe wins layout) o) f g, refl))
