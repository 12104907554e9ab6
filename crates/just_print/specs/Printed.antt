-- The text of a tree, as it is printed.
use Rattle.std.specs.Prelude.{ℕ, Bool, true, false, ◌&&◌, ◌==◌, if◌then◌else◌, List, [], ◌∷◌, ◌++◌, map, Option, Some, None, codes, chars, encode_utf8_all}
use Rattle.std.specs.List.{flat_map}
use Rattle.just_lang_syntax.specs.declared.ast.Name.{Name}
use Rattle.just_lang_syntax.specs.declared.ast.StringLiteral.{StringLiteral}
use Rattle.just_lang_syntax.specs.declared.ast.Comparison.{Comparison}
use Rattle.just_lang_syntax.specs.declared.ast.Comparison.TheVariants.{Equal, Unequal}
use Rattle.just_lang_syntax.specs.declared.ast.Expr.{Expr}
use Rattle.just_lang_syntax.specs.declared.ast.Expr.TheOpen.{Expr-F}
use Rattle.just_lang_syntax.specs.declared.ast.Expr.TheFolds.{fold-Expr}
use Rattle.just_lang_syntax.specs.declared.ast.Argument.{Argument}
use Rattle.just_lang_syntax.specs.declared.ast.Attribute.{Attribute}
use Rattle.just_lang_syntax.specs.declared.ast.ParameterKind.{ParameterKind}
use Rattle.just_lang_syntax.specs.declared.ast.ParameterKind.TheVariants.{Singular, Plus, Star}
use Rattle.just_lang_syntax.specs.declared.ast.AstParameter.{AstParameter}
use Rattle.just_lang_syntax.specs.declared.ast.AstDependency.{AstDependency}
use Rattle.just_lang_syntax.specs.declared.ast.AstRecipe.{AstRecipe}
use Rattle.just_lang_syntax.specs.declared.ast.Fragment.{Fragment}
use Rattle.just_lang_syntax.specs.declared.ast.Fragment.TheVariants as fragment
use Rattle.just_lang_syntax.specs.declared.ast.Line.{Line}
use Rattle.just_lang_syntax.specs.declared.ast.SettingValue.{SettingValue}
use Rattle.just_lang_syntax.specs.declared.ast.SettingValue.TheVariants as setting
use Rattle.just_lang_syntax.specs.declared.ast.AstItem.{AstItem}
use Rattle.just_lang_syntax.specs.declared.ast.AstItem.TheVariants as item
use Rattle.just_lang_read.specs.Quotes.{mark}

-- ---- lists

-- a line feed
abbrev pub newline : List ℕ
newline = 10 ∷ []

-- texts, each behind the sign
abbrev pub led : List ℕ → List (List ℕ) → List ℕ
led sign [] = []
led sign (text ∷ texts) = sign ++ (text ++ led sign texts)

-- texts with the sign between them
abbrev pub separated : List ℕ → List (List ℕ) → List ℕ
separated sign [] = []
separated sign (text ∷ texts) = text ++ led sign texts

-- a text where it is wanted
abbrev pub only_if : Bool → List ℕ → List ℕ
only_if wanted text = if wanted then text else []

-- ---- names and strings

-- a string as it was written
abbrev pub printed_string : StringLiteral → List ℕ
printed_string x = only_if x.expands (codes "x") ++ (mark x.quote ++ (x.raw ++ mark x.quote))

abbrev pub printed_name : Name → List ℕ
printed_name x = x.text

-- names with `::` between them
abbrev pub printed_path : List Name → List ℕ
printed_path xs = separated (codes "::") (map printed_name xs)

-- ---- expressions: one blank on each side of an operator

abbrev pub printed_comparison : Comparison → List ℕ
printed_comparison Equal = codes " == "
printed_comparison Unequal = codes " != "

-- what follows `else`: a further `if`, or a block
abbrev pub otherwise : Bool → List ℕ → List ℕ
otherwise chained text = if chained then text else codes "{ " ++ (text ++ codes " }")

-- the second argument of `env`, if there is one
abbrev pub printed_second : Option (List ℕ) → List ℕ
printed_second None = []
printed_second (Some text) = codes ", " ++ text

-- an expression by the texts of those inside it
abbrev pub expr_of : Expr-F (List ℕ) → List ℕ
expr_of (Expr-F.If left comparison right consequent chained alternative) =
    codes "if " ++ (left ++ (printed_comparison comparison ++ (right ++ (codes " { " ++ (consequent ++ (codes " } else " ++ otherwise chained alternative))))))
expr_of (Expr-F.Root inside) = codes "/ " ++ inside
expr_of (Expr-F.Join first second) = first ++ (codes " / " ++ second)
expr_of (Expr-F.Concat first second) = first ++ (codes " + " ++ second)
expr_of (Expr-F.Literal x) = printed_string x
expr_of (Expr-F.Variable x) = printed_name x
expr_of (Expr-F.Group inside) = codes "(" ++ (inside ++ codes ")")
expr_of (Expr-F.Env line column key default) = codes "env(" ++ (key ++ (printed_second default ++ codes ")"))

abbrev pub printed_expr : Expr → List ℕ
printed_expr = fold-Expr (List ℕ) expr_of

-- expressions, each behind a blank
abbrev pub printed_values : List Expr → List ℕ
printed_values xs = led (codes " ") (map printed_expr xs)

-- `=` and a value, if there is one
abbrev pub printed_default : Option Expr → List ℕ
printed_default None = []
printed_default (Some x) = codes "=" ++ printed_expr x

-- ---- the end of an item's line

-- a comment behind one blank, if there is one, and the line's end
abbrev pub printed_end : Option (List ℕ) → List ℕ
printed_end None = newline
printed_end (Some comment) = codes " " ++ (comment ++ newline)

-- ---- attributes, each on a line of its own

abbrev pub printed_key : Option Name → List ℕ
printed_key None = []
printed_key (Some key) = key.text ++ codes "="

abbrev pub printed_argument : Argument → List ℕ
printed_argument x = printed_key x.key ++ printed_expr x.value

abbrev pub printed_arguments : List Argument → List ℕ
printed_arguments xs = separated (codes ", ") (map printed_argument xs)

-- what stands behind an attribute's name: a colon and a value, or the arguments in parentheses, if there are some
abbrev pub behind_attribute : Bool → List Argument → List ℕ
behind_attribute true xs = codes ": " ++ printed_arguments xs
behind_attribute false [] = []
behind_attribute false (x ∷ xs) = codes "(" ++ (printed_arguments (x ∷ xs) ++ codes ")")

abbrev pub printed_attribute : Attribute → List ℕ
printed_attribute x = codes "[" ++ (x.name.text ++ (behind_attribute x.colon x.arguments ++ (codes "]" ++ printed_end x.comment)))

abbrev pub printed_attributes : List Attribute → List ℕ
printed_attributes xs = flat_map printed_attribute xs

-- ---- recipes

abbrev pub kind_sign : ParameterKind → List ℕ
kind_sign Singular = []
kind_sign Plus = codes "+"
kind_sign Star = codes "*"

abbrev pub printed_parameter : AstParameter → List ℕ
printed_parameter x = kind_sign x.kind ++ (only_if x.export (codes "$") ++ (x.name.text ++ printed_default x.default))

abbrev pub printed_parameters : List AstParameter → List ℕ
printed_parameters xs = led (codes " ") (map printed_parameter xs)

abbrev pub printed_dependency : AstDependency → List ℕ
printed_dependency x = if x.grouped then codes "(" ++ (printed_path x.path ++ (printed_values x.arguments ++ codes ")")) else printed_path x.path

abbrev pub printed_dependencies : List AstDependency → List ℕ
printed_dependencies xs = led (codes " ") (map printed_dependency xs)

-- ` &&` and dependencies, if there are some
abbrev pub printed_subsequents : List AstDependency → List ℕ
printed_subsequents [] = []
printed_subsequents (x ∷ xs) = codes " &&" ++ printed_dependencies (x ∷ xs)

-- a text of a body, in which `{{` is written `{{{{`
abbrev pub doubled : List ℕ → List ℕ
doubled [] = []
doubled (c ∷ []) = c ∷ []
doubled (c ∷ d ∷ rest) = if c == 123 && d == 123 then codes "{{{{" ++ doubled rest else c ∷ doubled (d ∷ rest)

abbrev pub printed_fragment : Fragment → List ℕ
printed_fragment (fragment.Text text) = encode_utf8_all (doubled (chars text))
printed_fragment (fragment.Value x) = codes "{{ " ++ (printed_expr x ++ codes " }}")

-- the fragments of a line behind the indentation; nothing where there are none
abbrev pub printed_fragments : List ℕ → List Fragment → List ℕ
printed_fragments indentation [] = []
printed_fragments indentation (x ∷ xs) = indentation ++ flat_map printed_fragment (x ∷ xs)

abbrev pub printed_line : List ℕ → Line → List ℕ
printed_line indentation x = printed_fragments indentation x.fragments ++ newline

-- a recipe's name and parameters
abbrev pub printed_signature : AstRecipe → List ℕ
printed_signature x = only_if x.quiet (codes "@") ++ (x.name.text ++ printed_parameters x.parameters)

-- the line of a recipe
abbrev pub printed_recipe_line : AstRecipe → List ℕ
printed_recipe_line x =
    printed_signature x ++ (codes ":" ++ (printed_dependencies x.priors ++ (printed_subsequents x.subsequents ++ printed_end x.comment)))

abbrev pub printed_recipe : List ℕ → AstRecipe → List ℕ
printed_recipe indentation x = printed_attributes x.attributes ++ (printed_recipe_line x ++ flat_map (printed_line indentation) x.body)

-- ---- items

abbrev pub printed_strings : List StringLiteral → List ℕ
printed_strings xs = codes "[" ++ (separated (codes ", ") (map printed_string xs) ++ codes "]")

abbrev pub printed_value : SettingValue → List ℕ
printed_value (setting.Bool true) = codes "true"
printed_value (setting.Bool false) = codes "false"
printed_value (setting.Text x) = printed_expr x
printed_value (setting.List xs) = printed_strings xs

-- ` := ` and a setting's value, if it has one
abbrev pub printed_setting : Option SettingValue → List ℕ
printed_setting None = []
printed_setting (Some x) = codes " := " ++ printed_value x

-- a word, with a `?` where it is optional that the file is there
abbrev pub printed_word : List ℕ → Bool → List ℕ
printed_word word optional = word ++ (only_if optional (codes "?") ++ codes " ")

-- a blank and the file of a module, if it has one
abbrev pub printed_file : Option StringLiteral → List ℕ
printed_file None = []
printed_file (Some x) = codes " " ++ printed_string x

abbrev pub printed_item : List ℕ → AstItem → List ℕ
printed_item indentation item.Blank = newline
printed_item indentation (item.Comment text) = text ++ newline
printed_item indentation (item.Alias name target comment) = codes "alias " ++ (name.text ++ (codes " := " ++ (printed_path target ++ printed_end comment)))
printed_item indentation (item.Import optional path comment) = printed_word (codes "import") optional ++ (printed_string path ++ printed_end comment)
printed_item indentation (item.Module attributes optional name path comment) =
    printed_attributes attributes ++ (printed_word (codes "mod") optional ++ (name.text ++ (printed_file path ++ printed_end comment)))
printed_item indentation (item.Assignment export name value comment) =
    only_if export (codes "export ") ++ (name.text ++ (codes " := " ++ (printed_expr value ++ printed_end comment)))
printed_item indentation (item.Unexport name comment) = codes "unexport " ++ (name.text ++ printed_end comment)
printed_item indentation (item.Setting name value comment) = codes "set " ++ (name.text ++ (printed_setting value ++ printed_end comment))
printed_item indentation (item.Recipe x) = printed_recipe indentation x

abbrev pub is_blank_item : AstItem → Bool
is_blank_item item.Blank = true
is_blank_item (item.Comment text) = false
is_blank_item (item.Alias name target comment) = false
is_blank_item (item.Import optional path comment) = false
is_blank_item (item.Module attributes optional name path comment) = false
is_blank_item (item.Assignment export name value comment) = false
is_blank_item (item.Unexport name comment) = false
is_blank_item (item.Setting name value comment) = false
is_blank_item (item.Recipe x) = false

-- items with one blank line where one or more stand together, behind a blank line or not
abbrev pub one_blank : Bool → List AstItem → List AstItem
one_blank behind_blank [] = []
one_blank behind_blank (x ∷ xs) = if is_blank_item x && behind_blank then one_blank true xs else x ∷ one_blank (is_blank_item x) xs

-- the text of a tree: its items in order, one blank line where one or more stand together
abbrev pub printed : List AstItem → List ℕ → List ℕ
printed items indentation = flat_map (printed_item indentation) (one_blank false items)
