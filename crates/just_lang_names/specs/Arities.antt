-- How many arguments recipes take, as the code keeps it.
use Rattle.std.specs.Prelude.{◌≡◌, ℕ, ◌&&◌, ◌||◌, nat_le, Bool, false, if◌then◌else◌, List, [], ◌∷◌, map, filter, length, slice_get, Option, None, codes}
use Rattle.std.specs.List.{list_any}
use Rattle.std.specs.Option.{option_and_then}
use Rattle.std.specs.Ordering.{nat_cmp}
use Rattle.std.specs.Cmp.Lexicographic.{slice_cmp}
use Rattle.std.specs.BTreeSet.{contains_by}
use Rattle.just_lang_syntax.specs.declared.ast.Argument.{Argument}
use Rattle.just_lang_syntax.specs.declared.ast.AstItem.{AstItem}
use Rattle.just_lang_syntax.specs.declared.ast.AstItem.TheVariants as item
use Rattle.just_lang_syntax.specs.declared.ast.AstParameter.{AstParameter}
use Rattle.just_lang_syntax.specs.declared.ast.AstRecipe.{AstRecipe}
use Rattle.just_lang_syntax.specs.declared.ast.Attribute.{Attribute}
use Rattle.just_lang_syntax.specs.declared.ast.StringLiteral.{StringLiteral}
use Rattle.just_lang_spots.specs.Entries.{entries}
use Rattle.just_lang_types.specs.Attributes.{is_called}
use Rattle.just_lang_types.specs.ConstantTexts.{const_text}
use Rattle.just_lang_types.specs.Options.{names_option, is_option_by}
use Rattle.just_lang_rules.specs.ParameterSpots.{wants_value}
use Rattle.just_lang_names.specs.declared.arity.Arities.{Arities}
use Rattle.just_lang_names.specs.declared.arity.Arity.{Arity}
use Rattle.just_lang_names.specs.declared.names.ModuleNames.{ModuleNames}
use Rattle.just_lang_names.specs.declared.names.Names.{Names}
use Rattle.just_lang_names.specs.declared.options.Options.{Options}
use Rattle.just_lang_names.specs.TargetSpots.{positional, has_option, is_variadic}

-- of what takes nothing
abbrev pub none : Arity
none = record { wanted = 0; positional = 0; variadic = false; options = false }

module _ (text_of : StringLiteral → Option (List ℕ)) where
  -- ---- options

  -- the parameter that arguments of `arg` make an option
  abbrev pub option_of_arguments : List Argument → Option (List ℕ)
  option_of_arguments [] = None
  option_of_arguments (x ∷ keys) = if names_option text_of keys then const_text text_of x.value else None

  -- the parameter that an attribute makes an option
  abbrev pub option_of : Attribute → Option (List ℕ)
  option_of a = if is_called (codes "arg") a then option_of_arguments a.arguments else None

  -- ---- arities

  abbrev pub arity_of : AstRecipe → Arity
  arity_of r = record {
    wanted = length (filter wants_value (positional text_of r));
    positional = length (positional text_of r);
    variadic = list_any (λ (p : AstParameter). is_variadic p.kind) (positional text_of r);
    options = has_option text_of r;
  }

  -- that of an item that is a recipe
  abbrev pub arity_of_item : ℕ × AstItem → Arity
  arity_of_item (n, item.Recipe r) = arity_of r
  arity_of_item (n, item.Blank) = none
  arity_of_item (n, item.Comment text) = none
  arity_of_item (n, item.Alias name target comment) = none
  arity_of_item (n, item.Import optional path comment) = none
  arity_of_item (n, item.Module attributes optional name path comment) = none
  arity_of_item (n, item.Assignment export name value comment) = none
  arity_of_item (n, item.Unexport name comment) = none
  arity_of_item (n, item.Setting name value comment) = none

  -- those of the recipes of each module
  abbrev pub arities_of : List ModuleNames → List (List Arity)
  arities_of ns = map (λ (n : ModuleNames). map arity_of_item (entries n.recipes.items)) ns

-- those of the recipes in the tables
abbrev pub AreArities : (StringLiteral → Option (List ℕ)) → Names → Arities → Type 0
AreArities text_of names arities = arities.modules.items ≡ arities_of text_of names.modules.items

-- the one at a place of a module
abbrev pub arity_in : Arities → ℕ → ℕ → Option Arity
arity_in arities number place = option_and_then (λ (xs : List Arity). slice_get xs place) (slice_get arities.modules.items number)

-- whether so many arguments are taken
abbrev pub takes : Arity → ℕ → Bool
takes x n = nat_le x.wanted n && (nat_le n x.positional || x.variadic)

-- whether the set has a name
abbrev pub has_option_name : Options → List ℕ → Bool
has_option_name options q = contains_by (λ k. slice_cmp nat_cmp q k) options.names

-- it has exactly the names of the parameters that attributes make options
abbrev pub AreOptions : (StringLiteral → Option (List ℕ)) → List Attribute → Options → Type 0
AreOptions text_of attributes options = (q : List ℕ) → has_option_name options q ≡ list_any (is_option_by text_of q) attributes
