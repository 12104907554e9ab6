-- Expressions without places, one law a variant.
use Rattle.std.specs.Option.{option_map}
use Rattle.std.proofs.Common.{◌≡◌, ℕ, Bool, Option, Some, None, sym, ap, ◌∙◌}
use Rattle.just_lang_syntax.specs.declared.ast.Name.{Name}
use Rattle.just_lang_syntax.specs.declared.ast.StringLiteral.{StringLiteral}
use Rattle.just_lang_syntax.specs.declared.ast.Comparison.{Comparison}
use Rattle.just_lang_syntax.specs.declared.ast.Expr.{Expr}
use Rattle.just_lang_syntax.specs.declared.ast.Expr.TheOpen.{Expr-F}
use Rattle.just_lang_syntax.specs.declared.ast.Expr.TheFolds.{fold-roll-Expr}
use Rattle.just_lang_syntax.specs.declared.ast.Expr.TheVariants as e
use Rattle.just_print.specs.Shapes.{bare_name, bare_string, bare_step, bare_expr}

-- a condition without places
pub bare_if : (a : Expr) (c : Comparison) (b d : Expr) (chained : Bool) (x : Expr)
    → bare_expr (e.If a c b d chained x) ≡ e.If (bare_expr a) c (bare_expr b) (bare_expr d) chained (bare_expr x)
bare_if a c b d chained x = ap bare_expr (sym (e.rolls-If a c b d chained x)) ∙ fold-roll-Expr Expr bare_step (Expr-F.If a c b d chained x)

-- `/ EXPR` without places
pub bare_root : (a : Expr) → bare_expr (e.Root a) ≡ e.Root (bare_expr a)
bare_root a = ap bare_expr (sym (e.rolls-Root a)) ∙ fold-roll-Expr Expr bare_step (Expr-F.Root a)

-- `VALUE / EXPR` without places
pub bare_join : (a b : Expr) → bare_expr (e.Join a b) ≡ e.Join (bare_expr a) (bare_expr b)
bare_join a b = ap bare_expr (sym (e.rolls-Join a b)) ∙ fold-roll-Expr Expr bare_step (Expr-F.Join a b)

-- `VALUE + EXPR` without places
pub bare_concat : (a b : Expr) → bare_expr (e.Concat a b) ≡ e.Concat (bare_expr a) (bare_expr b)
bare_concat a b = ap bare_expr (sym (e.rolls-Concat a b)) ∙ fold-roll-Expr Expr bare_step (Expr-F.Concat a b)

-- a string as an expression without places
pub bare_literal : (s : StringLiteral) → bare_expr (e.Literal s) ≡ e.Literal (bare_string s)
bare_literal s = ap bare_expr (sym (e.rolls-Literal s)) ∙ fold-roll-Expr Expr bare_step (Expr-F.Literal s)

-- a name as an expression without places
pub bare_variable : (n : Name) → bare_expr (e.Variable n) ≡ e.Variable (bare_name n)
bare_variable n = ap bare_expr (sym (e.rolls-Variable n)) ∙ fold-roll-Expr Expr bare_step (Expr-F.Variable n)

-- an expression in parentheses without places
pub bare_group : (a : Expr) → bare_expr (e.Group a) ≡ e.Group (bare_expr a)
bare_group a = ap bare_expr (sym (e.rolls-Group a)) ∙ fold-roll-Expr Expr bare_step (Expr-F.Group a)

-- a call without places
pub bare_env : (l c : ℕ) (a : Expr) (d : Option Expr) → bare_expr (e.Env l c a d) ≡ e.Env 0 0 (bare_expr a) (option_map bare_expr d)
bare_env l c a None = ap bare_expr (sym (e.rolls-Env l c a None)) ∙ fold-roll-Expr Expr bare_step (Expr-F.Env l c a None)
bare_env l c a (Some d) = ap bare_expr (sym (e.rolls-Env l c a (Some d))) ∙ fold-roll-Expr Expr bare_step (Expr-F.Env l c a (Some d))
