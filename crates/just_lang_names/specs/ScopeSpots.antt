-- The rule on names in expressions: each is a parameter's, a variable's or a constant's.
use Rattle.std.specs.Prelude.{ℕ, ◌||◌, not, Bool, if◌then◌else◌, List, [], ◌∷◌, ◌++◌, map, filter, Option, Some, None, is_some, bytes_eq, codes}
use Rattle.std.specs.List.{flat_map, list_any}
use Rattle.just_lang_syntax.specs.declared.ast.Argument.{Argument}
use Rattle.just_lang_syntax.specs.declared.ast.AstDependency.{AstDependency}
use Rattle.just_lang_syntax.specs.declared.ast.AstItem.{AstItem}
use Rattle.just_lang_syntax.specs.declared.ast.AstItem.TheVariants as item
use Rattle.just_lang_syntax.specs.declared.ast.AstParameter.{AstParameter}
use Rattle.just_lang_syntax.specs.declared.ast.AstRecipe.{AstRecipe}
use Rattle.just_lang_syntax.specs.declared.ast.Attribute.{Attribute}
use Rattle.just_lang_syntax.specs.declared.ast.Expr.{Expr}
use Rattle.just_lang_syntax.specs.declared.ast.Fragment.{Fragment}
use Rattle.just_lang_syntax.specs.declared.ast.Fragment.TheVariants as fragment
use Rattle.just_lang_syntax.specs.declared.ast.Line.{Line}
use Rattle.just_lang_syntax.specs.declared.ast.Name.{Name}
use Rattle.just_lang_types.specs.Constants.{constant_of}
use Rattle.just_lang_layout.specs.declared.layout.File.{File}
use Rattle.just_lang_layout.specs.declared.layout.Layout.{Layout}
use Rattle.just_lang_layout.specs.declared.layout.Module.{Module}
use Rattle.just_lang_spots.specs.declared.spot.Spot.{Spot}
use Rattle.just_lang_spots.specs.Places.{name_spot}
use Rattle.just_lang_spots.specs.Spots.{spot_where}
use Rattle.just_lang_spots.specs.Standing.{Wins}
use Rattle.just_lang_names.specs.Lookup.{is_variable}
use Rattle.just_lang_names.specs.NamesUsed.{names_of_expr}
use Rattle.just_lang_names.specs.Standing.{standing_recipe_items, standing_variable_items}

-- which names are known in an expression
abbrev pub Scope : Type 0
Scope = List ℕ → Bool

-- the variables that stand in a module, and the constants
abbrev pub module_scope : Wins → List File → Module → Scope
module_scope wins files m q = is_variable wins files m q || is_some (constant_of q)

abbrev pub has_parameter : List AstParameter → List ℕ → Bool
has_parameter ps q = list_any (λ (p : AstParameter). bytes_eq p.name.text q) ps

-- and the parameters
abbrev pub with_parameters : List AstParameter → Scope → Scope
with_parameters ps scope q = has_parameter ps q || scope q

module _ (scope : Scope) (file : ℕ) where
  -- the place of a name that isn't known
  abbrev pub unknown_name : Name → List Spot
  unknown_name n = spot_where (not (scope n.text)) (name_spot file n)

  -- the places of the names in an expression that aren't known
  abbrev pub unknown_names : Expr → List Spot
  unknown_names x = flat_map unknown_name (names_of_expr x)

  abbrev pub unknown_in_default : Option Expr → List Spot
  unknown_in_default None = []
  unknown_in_default (Some x) = unknown_names x

  abbrev pub unknown_in_argument : Argument → List Spot
  unknown_in_argument x = unknown_names x.value

  abbrev pub unknown_in_dependency : AstDependency → List Spot
  unknown_in_dependency d = flat_map unknown_names d.arguments

  abbrev pub unknown_in_fragment : Fragment → List Spot
  unknown_in_fragment (fragment.Text text) = []
  unknown_in_fragment (fragment.Value x) = unknown_names x

  abbrev pub unknown_in_line : Line → List Spot
  unknown_in_line line = flat_map unknown_in_fragment line.fragments

  -- in the values of the keys of `cache`; those of other attributes are constant
  abbrev pub unknown_in_attribute : Attribute → List Spot
  unknown_in_attribute a = if bytes_eq a.name.text (codes "cache") then flat_map unknown_in_argument a.arguments else []

  -- in what stands beside and behind the parameters, all of which are known there
  abbrev pub unknown_behind : AstRecipe → List Spot
  unknown_behind r =
      flat_map unknown_in_attribute r.attributes
      ++ (flat_map unknown_in_dependency r.priors ++ (flat_map unknown_in_dependency r.subsequents ++ flat_map unknown_in_line r.body))

-- in the defaults of parameters behind others: each knows those before it
abbrev pub unknown_in_defaults : Scope → ℕ → List AstParameter → List AstParameter → List Spot
unknown_in_defaults scope file before [] = []
unknown_in_defaults scope file before (p ∷ ps) =
    unknown_in_default (with_parameters before scope) file p.default ++ unknown_in_defaults scope file (before ++ p ∷ []) ps

abbrev pub unknown_in_recipe : Scope → ℕ → AstRecipe → List Spot
unknown_in_recipe scope file r = unknown_in_defaults scope file [] r.parameters ++ unknown_behind (with_parameters r.parameters scope) file r

-- in the value of a variable, and in a recipe
abbrev pub unknown_in_item : Scope → ℕ × AstItem → List Spot
unknown_in_item scope (n, item.Assignment export name value comment) = unknown_names scope n value
unknown_in_item scope (n, item.Recipe r) = unknown_in_recipe scope n r
unknown_in_item scope (n, item.Blank) = []
unknown_in_item scope (n, item.Comment text) = []
unknown_in_item scope (n, item.Alias name target comment) = []
unknown_in_item scope (n, item.Import optional path comment) = []
unknown_in_item scope (n, item.Module attributes optional name path comment) = []
unknown_in_item scope (n, item.Unexport name comment) = []
unknown_in_item scope (n, item.Setting name value comment) = []

-- in the variables and the recipes that stand in a module
abbrev pub undefined_in_module : Wins → List File → Module → List Spot
undefined_in_module wins files m =
    flat_map (unknown_in_item (module_scope wins files m)) (standing_variable_items wins files m)
    ++ flat_map (unknown_in_item (module_scope wins files m)) (standing_recipe_items wins files m)

abbrev pub undefined_variable_spots : Wins → Layout → List Spot
undefined_variable_spots wins layout = flat_map (undefined_in_module wins layout.files) layout.modules
