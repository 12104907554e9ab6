-- The errors of a layout, by what was found.
use Rattle.std.proofs.Common.{◌≡◌, inl, inr, Option, Some, None, sym, ◌∙◌, subst}
use Rattle.just_lang_types.specs.declared.project.LangError.{LangError}
use Rattle.just_lang_layout.specs.declared.layout.Layout.{Layout}
use Rattle.just_lang_layout.specs.Paths.{Pairs}
use Rattle.just_lang_spots.specs.declared.spot.Spot.{Spot}
use Rattle.just_lang_spots.specs.Spots.{first_spot}
use Rattle.just_lang_spots.specs.Standing.{Wins}
use Rattle.just_lang_rulebook.specs.declared.broken.Broken.{Broken}
use Rattle.just_lang_rulebook.specs.Rules.{not_constant_spots}
use Rattle.just_lang.specs.Errors.{error_of_rule, error_of_constant, BreaksNone, IsErrorIn}
use Rattle.just_lang.specs.Rules.{IsFirstRule}

module _ (environ : Pairs) (wins : Wins) (layout : Layout) where
  pub breaks_none : (o : Option Broken) (s : Option Spot) → IsFirstRule environ wins layout o → o ≡ None → s ≡ first_spot (not_constant_spots layout) → s ≡ None → BreaksNone environ wins layout
  breaks_none o s h e g f = record { rules = subst (λ (x : Option Broken). IsFirstRule environ wins layout x) e h; constants = sym g ∙ f }

  pub breaks_rule : (o : Option Broken) (b : Broken) (error : LangError) → IsFirstRule environ wins layout o → o ≡ Some b → error ≡ error_of_rule layout b → IsErrorIn environ wins layout error
  unfolding IsErrorIn
  breaks_rule o b error h e k = inl (b, subst (λ (x : Option Broken). IsFirstRule environ wins layout x) e h, k)

  pub breaks_constant : (o : Option Broken) (s : Option Spot) (spot : Spot) (error : LangError) → IsFirstRule environ wins layout o → o ≡ None → s ≡ first_spot (not_constant_spots layout) → s ≡ Some spot
      → error ≡ error_of_constant layout spot → IsErrorIn environ wins layout error
  unfolding IsErrorIn
  breaks_constant o s spot error h e g f k = inr (subst (λ (x : Option Broken). IsFirstRule environ wins layout x) e h, spot, sym g ∙ f, k)
