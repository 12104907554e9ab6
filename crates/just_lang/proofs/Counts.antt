-- The rules on what dependencies give, by the texts that an environment gives.
use Rattle.std.proofs.Common.{◌≡◌, ℕ, List, Option}
use Rattle.just_lang_syntax.specs.declared.ast.StringLiteral.{StringLiteral}
use Rattle.just_lang_layout.specs.Paths.{Pairs}
use Rattle.just_lang_spots.specs.declared.spot.Spot.{Spot}
use Rattle.just_lang_spots.specs.Spots.{first_spot}
use Rattle.just_lang_rulebook.specs.Meant.{meant}
use Rattle.just_lang_names.specs.declared.arity.Arities.{Arities}
use Rattle.just_lang_names.specs.declared.names.Names.{Names}
use Rattle.just_lang_names.specs.Arities.{arities_of, AreArities}
use Rattle.just_lang_names.specs.Names.{layout_of, wins_of}
use Rattle.just_lang_names.specs.TargetSpots.{dependency_argument_count_spots, dependency_is_option_spots}

module _ (environ : Pairs) (names : Names) (arities : Arities) (are : arities.modules.items ≡ arities_of (meant environ) names.modules.items) (s : Option Spot) where
  pub miscounted : ((text_of : StringLiteral → Option (List ℕ)) → AreArities text_of names arities → s ≡ first_spot (dependency_argument_count_spots text_of (wins_of names) (layout_of names)))
      → s ≡ first_spot (dependency_argument_count_spots (meant environ) (wins_of names) (layout_of names))
  miscounted h = h (meant environ) are

  pub on_option : ((text_of : StringLiteral → Option (List ℕ)) → AreArities text_of names arities → s ≡ first_spot (dependency_is_option_spots text_of (wins_of names) (layout_of names)))
      → s ≡ first_spot (dependency_is_option_spots (meant environ) (wins_of names) (layout_of names))
  on_option h = h (meant environ) are
