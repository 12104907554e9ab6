-- What stands in items, where each string with an `x` in front gives way to the text that it expands to.
use Rattle.std.specs.Prelude.{ℕ, false, if◌then◌else◌, List, map, Option, option_map}
use Rattle.std.specs.Option.{option_map_or}
use Rattle.just_lang_read.specs.declared.quote.Quote.TheVariants.{Single}
use Rattle.just_lang_syntax.specs.declared.ast.Argument.{Argument}
use Rattle.just_lang_syntax.specs.declared.ast.Attribute.{Attribute}
use Rattle.just_lang_syntax.specs.declared.ast.Expr.{Expr}
use Rattle.just_lang_syntax.specs.declared.ast.Expr.TheOpen.{Expr-F}
use Rattle.just_lang_syntax.specs.declared.ast.Expr.TheFolds.{fold-Expr}
use Rattle.just_lang_syntax.specs.declared.ast.Expr.TheVariants as e
use Rattle.just_lang_syntax.specs.declared.ast.Fragment.{Fragment}
use Rattle.just_lang_syntax.specs.declared.ast.Fragment.TheVariants as fragment
use Rattle.just_lang_syntax.specs.declared.ast.Line.{Line}
use Rattle.just_lang_syntax.specs.declared.ast.StringLiteral.{StringLiteral}

-- a string of that text, at the place of another
abbrev pub literal_with : StringLiteral → List ℕ → StringLiteral
literal_with x text = record { expands = false; quote = Single; raw = text; line = x.line; column = x.column }

module _ (text_of : StringLiteral → Option (List ℕ)) where
  -- a string, or the text that it expands to where it has an `x` in front; one that can't be expanded stays
  abbrev pub expanded_literal : StringLiteral → StringLiteral
  expanded_literal x = if x.expands then option_map_or (literal_with x) (text_of x) x else x

  -- an expression by those inside it
  abbrev pub expanded_step : Expr-F Expr → Expr
  expanded_step (Expr-F.If left comparison right consequent chained alternative) = e.If left comparison right consequent chained alternative
  expanded_step (Expr-F.Root inside) = e.Root inside
  expanded_step (Expr-F.Join first second) = e.Join first second
  expanded_step (Expr-F.Concat first second) = e.Concat first second
  expanded_step (Expr-F.Literal x) = e.Literal (expanded_literal x)
  expanded_step (Expr-F.Variable x) = e.Variable x
  expanded_step (Expr-F.Group inside) = e.Group inside
  expanded_step (Expr-F.Env line column key default) = e.Env line column key default

  abbrev pub expanded_expr : Expr → Expr
  expanded_expr = fold-Expr Expr expanded_step

  abbrev pub expanded_exprs : List Expr → List Expr
  expanded_exprs xs = map expanded_expr xs

  abbrev pub expanded_default : Option Expr → Option Expr
  expanded_default x = option_map expanded_expr x

  -- ---- attributes

  abbrev pub expanded_argument : Argument → Argument
  expanded_argument x = record { key = x.key; line = x.line; column = x.column; value = expanded_expr x.value }

  abbrev pub expanded_arguments : List Argument → List Argument
  expanded_arguments xs = map expanded_argument xs

  abbrev pub expanded_attribute : Attribute → Attribute
  expanded_attribute x = record { name = x.name; colon = x.colon; arguments = expanded_arguments x.arguments; comment = x.comment }

  abbrev pub expanded_attributes : List Attribute → List Attribute
  expanded_attributes xs = map expanded_attribute xs

  -- ---- bodies

  abbrev pub expanded_fragment : Fragment → Fragment
  expanded_fragment (fragment.Text text) = fragment.Text text
  expanded_fragment (fragment.Value x) = fragment.Value (expanded_expr x)

  abbrev pub expanded_fragments : List Fragment → List Fragment
  expanded_fragments xs = map expanded_fragment xs

  abbrev pub expanded_line : Line → Line
  expanded_line x = record { number = x.number; fragments = expanded_fragments x.fragments }

  abbrev pub expanded_lines : List Line → List Line
  expanded_lines xs = map expanded_line xs
