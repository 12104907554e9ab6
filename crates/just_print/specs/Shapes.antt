-- When two trees have the same shape: they are equal apart from places, line numbers and how many blank lines stand together.
use Rattle.std.specs.Prelude.{◌≡◌, false, List, map}
use Rattle.std.specs.Option.{option_map}
use Rattle.just_lang_syntax.specs.declared.ast.Name.{Name}
use Rattle.just_lang_syntax.specs.declared.ast.StringLiteral.{StringLiteral}
use Rattle.just_lang_syntax.specs.declared.ast.Expr.{Expr}
use Rattle.just_lang_syntax.specs.declared.ast.Expr.TheOpen.{Expr-F}
use Rattle.just_lang_syntax.specs.declared.ast.Expr.TheFolds.{fold-Expr}
use Rattle.just_lang_syntax.specs.declared.ast.Expr.TheVariants as e
use Rattle.just_lang_syntax.specs.declared.ast.Argument.{Argument}
use Rattle.just_lang_syntax.specs.declared.ast.Attribute.{Attribute}
use Rattle.just_lang_syntax.specs.declared.ast.AstParameter.{AstParameter}
use Rattle.just_lang_syntax.specs.declared.ast.AstDependency.{AstDependency}
use Rattle.just_lang_syntax.specs.declared.ast.AstRecipe.{AstRecipe}
use Rattle.just_lang_syntax.specs.declared.ast.Fragment.{Fragment}
use Rattle.just_lang_syntax.specs.declared.ast.Fragment.TheVariants as fragment
use Rattle.just_lang_syntax.specs.declared.ast.Line.{Line}
use Rattle.just_lang_syntax.specs.declared.ast.SettingValue.{SettingValue}
use Rattle.just_lang_syntax.specs.declared.ast.SettingValue.TheVariants as setting
use Rattle.just_lang_syntax.specs.declared.ast.AstItem.{AstItem}
use Rattle.just_lang_syntax.specs.declared.ast.AstItem.TheVariants as item
use Rattle.just_print.specs.Printed.{one_blank}

-- a name without its place
abbrev pub bare_name : Name → Name
bare_name x = record x { line = 0; column = 0 }

-- a string without its place
abbrev pub bare_string : StringLiteral → StringLiteral
bare_string x = record x { line = 0; column = 0 }

-- an expression of which those inside it are without places
abbrev pub bare_step : Expr-F Expr → Expr
bare_step (Expr-F.If left comparison right consequent chained alternative) = e.If left comparison right consequent chained alternative
bare_step (Expr-F.Root inside) = e.Root inside
bare_step (Expr-F.Join first second) = e.Join first second
bare_step (Expr-F.Concat first second) = e.Concat first second
bare_step (Expr-F.Literal x) = e.Literal (bare_string x)
bare_step (Expr-F.Variable x) = e.Variable (bare_name x)
bare_step (Expr-F.Group inside) = e.Group inside
bare_step (Expr-F.Env line column key default) = e.Env 0 0 key default

-- an expression without places
abbrev pub bare_expr : Expr → Expr
bare_expr = fold-Expr Expr bare_step

abbrev pub bare_argument : Argument → Argument
bare_argument x = record { key = option_map bare_name x.key; line = 0; column = 0; value = bare_expr x.value }

abbrev pub bare_attribute : Attribute → Attribute
bare_attribute x = record { name = bare_name x.name; colon = x.colon; arguments = map bare_argument x.arguments; comment = x.comment }

abbrev pub bare_parameter : AstParameter → AstParameter
bare_parameter x = record { kind = x.kind; export = x.export; name = bare_name x.name; default = option_map bare_expr x.default }

abbrev pub bare_dependency : AstDependency → AstDependency
bare_dependency x = record { path = map bare_name x.path; grouped = x.grouped; arguments = map bare_expr x.arguments }

abbrev pub bare_fragment : Fragment → Fragment
bare_fragment (fragment.Text text) = fragment.Text text
bare_fragment (fragment.Value x) = fragment.Value (bare_expr x)

-- a line without its number
abbrev pub bare_line : Line → Line
bare_line x = record { number = 0; fragments = map bare_fragment x.fragments }

abbrev pub bare_recipe : AstRecipe → AstRecipe
bare_recipe x = record {
  attributes = map bare_attribute x.attributes;
  quiet = x.quiet;
  name = bare_name x.name;
  parameters = map bare_parameter x.parameters;
  priors = map bare_dependency x.priors;
  subsequents = map bare_dependency x.subsequents;
  comment = x.comment;
  body = map bare_line x.body;
}

abbrev pub bare_value : SettingValue → SettingValue
bare_value (setting.Bool is_set) = setting.Bool is_set
bare_value (setting.Text x) = setting.Text (bare_expr x)
bare_value (setting.List xs) = setting.List (map bare_string xs)

-- an item without places and line numbers
abbrev pub bare_item : AstItem → AstItem
bare_item item.Blank = item.Blank
bare_item (item.Comment text) = item.Comment text
bare_item (item.Alias name target comment) = item.Alias (bare_name name) (map bare_name target) comment
bare_item (item.Import optional path comment) = item.Import optional (bare_string path) comment
bare_item (item.Module attributes optional name path comment) =
    item.Module (map bare_attribute attributes) optional (bare_name name) (option_map bare_string path) comment
bare_item (item.Assignment export name value comment) = item.Assignment export (bare_name name) (bare_expr value) comment
bare_item (item.Unexport name comment) = item.Unexport (bare_name name) comment
bare_item (item.Setting name value comment) = item.Setting (bare_name name) (option_map bare_value value) comment
bare_item (item.Recipe x) = item.Recipe (bare_recipe x)

-- the shape of a tree
abbrev pub shape : List AstItem → List AstItem
shape xs = map bare_item (one_blank false xs)

abbrev pub SameShape : List AstItem → List AstItem → Type 0
SameShape xs ys = shape xs ≡ shape ys
