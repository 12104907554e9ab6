-- What expressions give by what their parts give.
use Rattle.std.proofs.Common.{◌≡◌, ℕ, List, ◌++◌, Some, ap, sym, ◌∙◌}
use Rattle.just_lang_syntax.specs.declared.ast.StringLiteral.{StringLiteral}
use Rattle.just_lang_syntax.specs.declared.ast.Comparison.{Comparison}
use Rattle.just_lang_syntax.specs.declared.ast.Expr.{Expr}
use Rattle.just_lang_syntax.specs.declared.ast.Expr.TheVariants as e
use Rattle.just_lang_syntax.specs.declared.ast.Expr.TheOpen.{Expr-F}
use Rattle.just_lang_syntax.specs.declared.ast.Expr.TheFolds.{fold-roll-Expr}
use Rattle.std.specs.Prelude.{Bool}
use Rattle.just_lang_spots.specs.declared.spot.Spot.{Spot}
use Rattle.just_lang_rules.specs.ConstantTexts.{variables_of_parts, variables_of_expr}
use Rattle.just_lang_rules.specs.Literals.{literals_of_parts, literals_of_expr}

pub variables_if : (f : ℕ) (a : Expr) (c : Comparison) (b d : Expr) (chained : Bool) (x : Expr)
    → variables_of_expr f (e.If a c b d chained x) ≡ variables_of_expr f a ++ (variables_of_expr f b ++ (variables_of_expr f d ++ variables_of_expr f x))
variables_if f a c b d chained x = ap (variables_of_expr f) (sym (e.rolls-If a c b d chained x)) ∙ fold-roll-Expr (List Spot) (variables_of_parts f) (Expr-F.If a c b d chained x)

pub variables_join : (f : ℕ) (a b : Expr) → variables_of_expr f (e.Join a b) ≡ variables_of_expr f a ++ variables_of_expr f b
variables_join f a b = ap (variables_of_expr f) (sym (e.rolls-Join a b)) ∙ fold-roll-Expr (List Spot) (variables_of_parts f) (Expr-F.Join a b)

pub variables_concat : (f : ℕ) (a b : Expr) → variables_of_expr f (e.Concat a b) ≡ variables_of_expr f a ++ variables_of_expr f b
variables_concat f a b = ap (variables_of_expr f) (sym (e.rolls-Concat a b)) ∙ fold-roll-Expr (List Spot) (variables_of_parts f) (Expr-F.Concat a b)

pub literals_if : (a : Expr) (c : Comparison) (b d : Expr) (chained : Bool) (x : Expr)
    → literals_of_expr (e.If a c b d chained x) ≡ literals_of_expr a ++ (literals_of_expr b ++ (literals_of_expr d ++ literals_of_expr x))
literals_if a c b d chained x = ap literals_of_expr (sym (e.rolls-If a c b d chained x)) ∙ fold-roll-Expr (List StringLiteral) literals_of_parts (Expr-F.If a c b d chained x)

pub literals_join : (a b : Expr) → literals_of_expr (e.Join a b) ≡ literals_of_expr a ++ literals_of_expr b
literals_join a b = ap literals_of_expr (sym (e.rolls-Join a b)) ∙ fold-roll-Expr (List StringLiteral) literals_of_parts (Expr-F.Join a b)

pub literals_concat : (a b : Expr) → literals_of_expr (e.Concat a b) ≡ literals_of_expr a ++ literals_of_expr b
literals_concat a b = ap literals_of_expr (sym (e.rolls-Concat a b)) ∙ fold-roll-Expr (List StringLiteral) literals_of_parts (Expr-F.Concat a b)

pub literals_env : (l c : ℕ) (k d : Expr) → literals_of_expr (e.Env l c k (Some d)) ≡ literals_of_expr k ++ literals_of_expr d
literals_env l c k d = ap literals_of_expr (sym (e.rolls-Env l c k (Some d))) ∙ fold-roll-Expr (List StringLiteral) literals_of_parts (Expr-F.Env l c k (Some d))
