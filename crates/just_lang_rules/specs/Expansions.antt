-- The strings with an `x` in front that can't be expanded.
use Rattle.std.specs.Prelude.{ℕ, Bool, not, ◌&&◌, List, Option, is_some}
use Rattle.std.specs.List.{flat_map}
use Rattle.just_lang_syntax.specs.declared.ast.StringLiteral.{StringLiteral}
use Rattle.just_lang_spots.specs.declared.spot.Spot.{Spot}
use Rattle.just_lang_spots.specs.Spots.{spot_where}
use Rattle.just_lang_spots.specs.Places.{literal_spot}

module _ (text_of : StringLiteral → Option (List ℕ)) where
  abbrev pub cannot_expand : StringLiteral → Bool
  cannot_expand x = x.expands && not (is_some (text_of x))

  abbrev pub expansion_spots_of : ℕ → List StringLiteral → List Spot
  expansion_spots_of file xs = flat_map (λ x. spot_where (cannot_expand x) (literal_spot file x)) xs
