-- The texts of expressions, one law a variant.
use Rattle.std.specs.Option.{option_map}
use Rattle.std.proofs.Common.{◌≡◌, ℕ, Bool, List, ◌++◌, Option, Some, None, codes, sym, ap, ◌∙◌, append_assoc}
use Rattle.just_lang_syntax.specs.declared.ast.Name.{Name}
use Rattle.just_lang_syntax.specs.declared.ast.StringLiteral.{StringLiteral}
use Rattle.just_lang_syntax.specs.declared.ast.Comparison.{Comparison}
use Rattle.just_lang_syntax.specs.declared.ast.Expr.{Expr}
use Rattle.just_lang_syntax.specs.declared.ast.Expr.TheOpen.{Expr-F}
use Rattle.just_lang_syntax.specs.declared.ast.Expr.TheFolds.{fold-roll-Expr}
use Rattle.just_lang_syntax.specs.declared.ast.Expr.TheVariants as e
use Rattle.just_print.specs.Printed.{printed_string, printed_comparison, otherwise, printed_second, expr_of, printed_expr}

-- the text of a condition
pub printed_if : (a : Expr) (c : Comparison) (b d : Expr) (chained : Bool) (x : Expr) → printed_expr (e.If a c b d chained x)
    ≡ codes "if " ++ (printed_expr a ++ (printed_comparison c ++ (printed_expr b ++ (codes " { " ++ (printed_expr d ++ (codes " } else " ++ otherwise chained (printed_expr x)))))))
printed_if a c b d chained x = ap printed_expr (sym (e.rolls-If a c b d chained x)) ∙ fold-roll-Expr (List ℕ) expr_of (Expr-F.If a c b d chained x)

-- the text of `/ EXPR`
pub printed_root : (a : Expr) → printed_expr (e.Root a) ≡ codes "/ " ++ printed_expr a
printed_root a = ap printed_expr (sym (e.rolls-Root a)) ∙ fold-roll-Expr (List ℕ) expr_of (Expr-F.Root a)

-- the text of `VALUE / EXPR`
pub printed_join : (a b : Expr) → printed_expr (e.Join a b) ≡ printed_expr a ++ (codes " / " ++ printed_expr b)
printed_join a b = ap printed_expr (sym (e.rolls-Join a b)) ∙ fold-roll-Expr (List ℕ) expr_of (Expr-F.Join a b)

-- the text of `VALUE + EXPR`
pub printed_concat : (a b : Expr) → printed_expr (e.Concat a b) ≡ printed_expr a ++ (codes " + " ++ printed_expr b)
printed_concat a b = ap printed_expr (sym (e.rolls-Concat a b)) ∙ fold-roll-Expr (List ℕ) expr_of (Expr-F.Concat a b)

-- the text of a string as an expression
pub literal_is : (s : StringLiteral) → printed_expr (e.Literal s) ≡ printed_string s
literal_is s = ap printed_expr (sym (e.rolls-Literal s)) ∙ fold-roll-Expr (List ℕ) expr_of (Expr-F.Literal s)

-- the text of a name as an expression
pub variable_is : (n : Name) → printed_expr (e.Variable n) ≡ n.text
variable_is n = ap printed_expr (sym (e.rolls-Variable n)) ∙ fold-roll-Expr (List ℕ) expr_of (Expr-F.Variable n)

-- the text of an expression in parentheses
pub printed_group : (a : Expr) → printed_expr (e.Group a) ≡ codes "(" ++ (printed_expr a ++ codes ")")
printed_group a = ap printed_expr (sym (e.rolls-Group a)) ∙ fold-roll-Expr (List ℕ) expr_of (Expr-F.Group a)

-- the text of a call
pub printed_env : (l c : ℕ) (a : Expr) (d : Option Expr) → printed_expr (e.Env l c a d) ≡ codes "env(" ++ (printed_expr a ++ (printed_second (option_map printed_expr d) ++ codes ")"))
printed_env l c a None = ap printed_expr (sym (e.rolls-Env l c a None)) ∙ fold-roll-Expr (List ℕ) expr_of (Expr-F.Env l c a None)
printed_env l c a (Some d) = ap printed_expr (sym (e.rolls-Env l c a (Some d))) ∙ fold-roll-Expr (List ℕ) expr_of (Expr-F.Env l c a (Some d))

-- ---- what the code adds one after the other is that text

-- a condition
pub if_behind : (out : List ℕ) (a : Expr) (c : Comparison) (b d : Expr) (chained : Bool) (x : Expr)
    → (((((((out ++ codes "if ") ++ printed_expr a) ++ printed_comparison c) ++ printed_expr b) ++ codes " { ") ++ printed_expr d) ++ codes " } else ") ++ otherwise chained (printed_expr x)
    ≡ out ++ printed_expr (e.If a c b d chained x)
if_behind out a c b d chained x = simp append_assoc (ap (λ (t : List ℕ). out ++ t) (sym (printed_if a c b d chained x)))

-- `/ EXPR`
pub root_behind : (out : List ℕ) (a : Expr) → (out ++ codes "/ ") ++ printed_expr a ≡ out ++ printed_expr (e.Root a)
root_behind out a = simp append_assoc (ap (λ (t : List ℕ). out ++ t) (sym (printed_root a)))

-- `VALUE / EXPR`
pub join_behind : (out : List ℕ) (a b : Expr) → ((out ++ printed_expr a) ++ codes " / ") ++ printed_expr b ≡ out ++ printed_expr (e.Join a b)
join_behind out a b = simp append_assoc (ap (λ (t : List ℕ). out ++ t) (sym (printed_join a b)))

-- `VALUE + EXPR`
pub concat_behind : (out : List ℕ) (a b : Expr) → ((out ++ printed_expr a) ++ codes " + ") ++ printed_expr b ≡ out ++ printed_expr (e.Concat a b)
concat_behind out a b = simp append_assoc (ap (λ (t : List ℕ). out ++ t) (sym (printed_concat a b)))

-- an expression in parentheses
pub group_behind : (out : List ℕ) (a : Expr) → ((out ++ codes "(") ++ printed_expr a) ++ codes ")" ≡ out ++ printed_expr (e.Group a)
group_behind out a = simp append_assoc (ap (λ (t : List ℕ). out ++ t) (sym (printed_group a)))

-- a call
pub env_behind : (out : List ℕ) (l c : ℕ) (a : Expr) (d : Option Expr)
    → (((out ++ codes "env(") ++ printed_expr a) ++ printed_second (option_map printed_expr d)) ++ codes ")" ≡ out ++ printed_expr (e.Env l c a d)
env_behind out l c a d = simp append_assoc (ap (λ (t : List ℕ). out ++ t) (sym (printed_env l c a d)))
