-- The rules on the parameters of a recipe.
use Rattle.std.specs.Prelude.{ℕ, Bool, true, false, not, ◌&&◌, ◌||◌, is_some, List, [], ◌∷◌, ◌++◌, Option}
use Rattle.just_lang_syntax.specs.declared.ast.StringLiteral.{StringLiteral}
use Rattle.just_lang_syntax.specs.declared.ast.Attribute.{Attribute}
use Rattle.just_lang_syntax.specs.declared.ast.ParameterKind.{ParameterKind}
use Rattle.just_lang_syntax.specs.declared.ast.ParameterKind.TheVariants.{Singular, Plus, Star}
use Rattle.just_lang_syntax.specs.declared.ast.AstParameter.{AstParameter}
use Rattle.just_lang_syntax.specs.declared.ast.AstItem.{AstItem}
use Rattle.just_lang_syntax.specs.declared.ast.AstItem.TheVariants as item
use Rattle.just_lang_spots.specs.declared.spot.Spot.{Spot}
use Rattle.just_lang_spots.specs.Spots.{spot_where}
use Rattle.just_lang_spots.specs.Places.{name_spot}
use Rattle.just_lang_types.specs.Options.{is_option}

-- the parameters of an item that is a recipe
abbrev pub parameters_of : AstItem → List AstParameter
parameters_of item.Blank = []
parameters_of (item.Comment text) = []
parameters_of (item.Alias name target comment) = []
parameters_of (item.Import optional path comment) = []
parameters_of (item.Module attributes optional name path comment) = []
parameters_of (item.Assignment export name value comment) = []
parameters_of (item.Unexport name comment) = []
parameters_of (item.Setting name value comment) = []
parameters_of (item.Recipe r) = r.parameters

abbrev pub parameter_name : ℕ → AstParameter → List ℕ × Spot
parameter_name file p = (p.name.text, name_spot file p.name)

abbrev pub is_star : ParameterKind → Bool
is_star Singular = false
is_star Plus = false
is_star Star = true

-- a parameter that wants a value: it has no default, and isn't one of any number
abbrev pub wants_value : AstParameter → Bool
wants_value p = not (is_some p.default || is_star p.kind)

module _ (text_of : StringLiteral → Option (List ℕ)) where
  -- one that may not stand behind a parameter with a default: it wants a value, and is no option
  abbrev pub is_misplaced : List Attribute → AstParameter → Bool
  is_misplaced attributes p = wants_value p && not (is_option text_of attributes p)

  abbrev pub misplaced : List Attribute → ℕ → Bool → AstParameter → List Spot
  misplaced attributes file behind p = spot_where (behind && is_misplaced attributes p) (name_spot file p.name)

  -- those of some parameters that stand so; `behind` tells whether one with a default stands before these
  abbrev pub required_behind : List Attribute → ℕ → Bool → List AstParameter → List Spot
  required_behind attributes file behind [] = []
  required_behind attributes file behind (p ∷ ps) =
      misplaced attributes file behind p ++ required_behind attributes file (behind || is_some p.default) ps

  abbrev pub required_follows_of : ℕ → AstItem → List Spot
  required_follows_of file item.Blank = []
  required_follows_of file (item.Comment text) = []
  required_follows_of file (item.Alias name target comment) = []
  required_follows_of file (item.Import optional path comment) = []
  required_follows_of file (item.Module attributes optional name path comment) = []
  required_follows_of file (item.Assignment export name value comment) = []
  required_follows_of file (item.Unexport name comment) = []
  required_follows_of file (item.Setting name value comment) = []
  required_follows_of file (item.Recipe r) = required_behind r.attributes file false r.parameters
