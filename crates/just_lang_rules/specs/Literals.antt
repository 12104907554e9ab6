-- The strings of an item, wherever they stand in it.
use Rattle.std.specs.Prelude.{List, [], ◌∷◌, ◌++◌, Option, Some, None}
use Rattle.std.specs.List.{flat_map}
use Rattle.just_lang_syntax.specs.declared.ast.StringLiteral.{StringLiteral}
use Rattle.just_lang_syntax.specs.declared.ast.Expr.{Expr}
use Rattle.just_lang_syntax.specs.declared.ast.Expr.TheOpen.{Expr-F}
use Rattle.just_lang_syntax.specs.declared.ast.Expr.TheFolds.{fold-Expr}
use Rattle.just_lang_syntax.specs.declared.ast.Attribute.{Attribute}
use Rattle.just_lang_syntax.specs.declared.ast.AstParameter.{AstParameter}
use Rattle.just_lang_syntax.specs.declared.ast.AstDependency.{AstDependency}
use Rattle.just_lang_syntax.specs.declared.ast.AstRecipe.{AstRecipe}
use Rattle.just_lang_syntax.specs.declared.ast.Fragment.{Fragment}
use Rattle.just_lang_syntax.specs.declared.ast.Fragment.TheVariants as fragment
use Rattle.just_lang_syntax.specs.declared.ast.Line.{Line}
use Rattle.just_lang_syntax.specs.declared.ast.SettingValue.{SettingValue}
use Rattle.just_lang_syntax.specs.declared.ast.SettingValue.TheVariants as setting
use Rattle.just_lang_syntax.specs.declared.ast.AstItem.{AstItem}
use Rattle.just_lang_syntax.specs.declared.ast.AstItem.TheVariants as item

-- the strings of an expression by those of its parts
abbrev pub literals_of_parts : Expr-F (List StringLiteral) → List StringLiteral
literals_of_parts (Expr-F.If left comparison right consequent chained alternative) = left ++ (right ++ (consequent ++ alternative))
literals_of_parts (Expr-F.Root inside) = inside
literals_of_parts (Expr-F.Join first second) = first ++ second
literals_of_parts (Expr-F.Concat first second) = first ++ second
literals_of_parts (Expr-F.Literal x) = x ∷ []
literals_of_parts (Expr-F.Variable x) = []
literals_of_parts (Expr-F.Group inside) = inside
literals_of_parts (Expr-F.Env line column key None) = key
literals_of_parts (Expr-F.Env line column key (Some default)) = key ++ default

abbrev pub literals_of_expr : Expr → List StringLiteral
literals_of_expr = fold-Expr (List StringLiteral) literals_of_parts

abbrev pub literals_of_default : Option Expr → List StringLiteral
literals_of_default None = []
literals_of_default (Some x) = literals_of_expr x

abbrev pub literals_of_attribute : Attribute → List StringLiteral
literals_of_attribute a = flat_map (λ x. literals_of_expr x.value) a.arguments

abbrev pub literals_of_parameter : AstParameter → List StringLiteral
literals_of_parameter p = literals_of_default p.default

abbrev pub literals_of_dependency : AstDependency → List StringLiteral
literals_of_dependency d = flat_map literals_of_expr d.arguments

abbrev pub literals_of_fragment : Fragment → List StringLiteral
literals_of_fragment (fragment.Text text) = []
literals_of_fragment (fragment.Value x) = literals_of_expr x

abbrev pub literals_of_line : Line → List StringLiteral
literals_of_line line = flat_map literals_of_fragment line.fragments

abbrev pub literals_behind_colon : AstRecipe → List StringLiteral
literals_behind_colon r =
    flat_map literals_of_dependency r.priors ++ (flat_map literals_of_dependency r.subsequents ++ flat_map literals_of_line r.body)

abbrev pub literals_of_recipe : AstRecipe → List StringLiteral
literals_of_recipe r = flat_map literals_of_attribute r.attributes ++ (flat_map literals_of_parameter r.parameters ++ literals_behind_colon r)

abbrev pub literals_of_setting : Option SettingValue → List StringLiteral
literals_of_setting None = []
literals_of_setting (Some (setting.Bool value)) = []
literals_of_setting (Some (setting.Text x)) = literals_of_expr x
literals_of_setting (Some (setting.List xs)) = xs

abbrev pub literals_of_path : Option StringLiteral → List StringLiteral
literals_of_path None = []
literals_of_path (Some x) = x ∷ []

-- all strings of an item
abbrev pub literals_of : AstItem → List StringLiteral
literals_of item.Blank = []
literals_of (item.Comment text) = []
literals_of (item.Alias name target comment) = []
literals_of (item.Import optional path comment) = path ∷ []
literals_of (item.Module attributes optional name path comment) = flat_map literals_of_attribute attributes ++ literals_of_path path
literals_of (item.Assignment export name value comment) = literals_of_expr value
literals_of (item.Unexport name comment) = []
literals_of (item.Setting name value comment) = literals_of_setting value
literals_of (item.Recipe r) = literals_of_recipe r
