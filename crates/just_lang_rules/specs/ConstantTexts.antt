-- What isn't constant in the texts of settings and attributes.
use Rattle.std.specs.Prelude.{ℕ, not, is_some, if◌then◌else◌, List, [], ◌∷◌, ◌++◌, Option, Some, None, bytes_eq, codes}
use Rattle.std.specs.List.{flat_map}
use Rattle.just_lang_syntax.specs.declared.ast.Name.{Name}
use Rattle.just_lang_syntax.specs.declared.ast.Expr.{Expr}
use Rattle.just_lang_syntax.specs.declared.ast.Expr.TheOpen.{Expr-F}
use Rattle.just_lang_syntax.specs.declared.ast.Expr.TheFolds.{fold-Expr}
use Rattle.just_lang_syntax.specs.declared.ast.Argument.{Argument}
use Rattle.just_lang_syntax.specs.declared.ast.Attribute.{Attribute}
use Rattle.just_lang_syntax.specs.declared.ast.SettingValue.{SettingValue}
use Rattle.just_lang_syntax.specs.declared.ast.SettingValue.TheVariants as setting
use Rattle.just_lang_syntax.specs.declared.ast.AstItem.{AstItem}
use Rattle.just_lang_syntax.specs.declared.ast.AstItem.TheVariants as item
use Rattle.just_lang_types.specs.Constants.{constant_of}
use Rattle.just_lang_spots.specs.declared.spot.Spot.{Spot}
use Rattle.just_lang_spots.specs.Spots.{spot_where}
use Rattle.just_lang_spots.specs.Places.{name_spot}

-- a name that isn't a constant's
abbrev pub variable_spot : ℕ → Name → List Spot
variable_spot file x = spot_where (not (is_some (constant_of x.text))) (name_spot file x)

-- the names in an expression that aren't constants, and its calls of `env`, by those of its parts
abbrev pub variables_of_parts : ℕ → Expr-F (List Spot) → List Spot
variables_of_parts file (Expr-F.If left comparison right consequent chained alternative) = left ++ (right ++ (consequent ++ alternative))
variables_of_parts file (Expr-F.Root inside) = inside
variables_of_parts file (Expr-F.Join first second) = first ++ second
variables_of_parts file (Expr-F.Concat first second) = first ++ second
variables_of_parts file (Expr-F.Literal x) = []
variables_of_parts file (Expr-F.Variable x) = variable_spot file x
variables_of_parts file (Expr-F.Group inside) = inside
variables_of_parts file (Expr-F.Env line column key default) = record { file = file; line = line; column = column } ∷ []

abbrev pub variables_of_expr : ℕ → Expr → List Spot
variables_of_expr file = fold-Expr (List Spot) (variables_of_parts file)

-- those in an argument that has a key
abbrev pub variables_behind_key : ℕ → Argument → List Spot
variables_behind_key file x = if is_some x.key then variables_of_expr file x.value else []

-- those in the arguments of `arg`: the first names a parameter; of the others those without a value are keys
abbrev pub variables_of_arg : ℕ → List Argument → List Spot
variables_of_arg file [] = []
variables_of_arg file (x ∷ keys) = variables_of_expr file x.value ++ flat_map (variables_behind_key file) keys

-- those in an attribute's arguments; the values of `cache` may have any
abbrev pub variables_of_attribute : ℕ → Attribute → List Spot
variables_of_attribute file a =
    if bytes_eq a.name.text (codes "cache") then []
    else (if bytes_eq a.name.text (codes "arg") then variables_of_arg file a.arguments
    else flat_map (λ x. variables_of_expr file x.value) a.arguments)

abbrev pub variables_of_setting : ℕ → Option SettingValue → List Spot
variables_of_setting file None = []
variables_of_setting file (Some (setting.Bool value)) = []
variables_of_setting file (Some (setting.Text x)) = variables_of_expr file x
variables_of_setting file (Some (setting.List xs)) = []

-- those in the texts of a setting or of attributes
abbrev pub variables_of : ℕ → AstItem → List Spot
variables_of file item.Blank = []
variables_of file (item.Comment text) = []
variables_of file (item.Alias name target comment) = []
variables_of file (item.Import optional path comment) = []
variables_of file (item.Module attributes optional name path comment) = flat_map (variables_of_attribute file) attributes
variables_of file (item.Assignment export name value comment) = []
variables_of file (item.Unexport name comment) = []
variables_of file (item.Setting name value comment) = variables_of_setting file value
variables_of file (item.Recipe r) = flat_map (variables_of_attribute file) r.attributes
