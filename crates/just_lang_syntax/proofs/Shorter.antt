-- Parameters, dependencies and fragments take characters.
use Rattle.std.proofs.Common.{◌≡◌, ℕ, ◌<◌, ◌≤◌, true, false, List, [], ◌∷◌, length, Option, Ok, codes, sym, ap, ◌∙◌, arith}
use Rattle.std.proofs.lemmas.Bool.{false≢true}
use Rattle.just_lang_read.specs.Place.{Place, AreMany}
use Rattle.just_lang_syntax.specs.declared.ast.Expr.{Expr}
use Rattle.just_lang_syntax.specs.declared.ast.ParameterKind.{ParameterKind}
use Rattle.just_lang_syntax.specs.declared.ast.AstParameter.{AstParameter}
use Rattle.just_lang_syntax.specs.declared.ast.AstDependency.{AstDependency}
use Rattle.just_lang_syntax.specs.declared.ast.Fragment.{Fragment}
use Rattle.just_lang_syntax.specs.Exprs.{IsInner, IsExpr}
use Rattle.just_lang_syntax.specs.Recipes.{IsDefault, IsParameter, IsDependencyValue, IsDependency}
use Rattle.just_lang_syntax.specs.Recipes.IsDefault.{default, without}
use Rattle.just_lang_syntax.specs.Recipes.IsParameter.{parameter}
use Rattle.just_lang_syntax.specs.Recipes.IsDependency.{bare, grouped}
use Rattle.just_lang_syntax.specs.Bodies.{is_text, IsLetter, IsFragment}
use Rattle.just_lang_syntax.specs.Bodies.IsLetter.{braces, itself}
use Rattle.just_lang_syntax.specs.Bodies.IsFragment.{text, value}
use Rattle.just_lang_syntax.specs.ItemReaders as item
use Rattle.just_lang_read.proofs.Laws.{behind_le, behind_shorter}
use Rattle.just_lang_syntax.proofs.Tokens.{token_lt}
use Rattle.just_lang_syntax.proofs.LineLaws.{behind_maybe, behind_path}
use Rattle.just_lang_syntax.proofs.ExprComplete.{expr_ok}
use Rattle.just_lang_syntax.proofs.ExprShorter.{name_lt, level_lt, value_lt, inner_lt}
use Rattle.just_lang_syntax.proofs.PathLoop.{first_lt, are_le}
use Rattle.just_lang_syntax.proofs.RecipeSound.{parameter_ok, dependency_ok}
use Rattle.just_lang_syntax.proofs.BodySound.{letter_ok, fragment_ok}

-- ---- over what stands there

-- behind an expression less is left
pub behind_expr : (p q : Place) (x : Expr) → IsExpr p q x → length q.rest < length p.rest
behind_expr p q x i = level_lt (IsInner 256) (inner_lt 256) p q x i

-- behind what may stand behind a parameter no more is left
behind_default : (p q : Place) (x : Option Expr) → IsDefault p q x → length q.rest ≤ length p.rest
behind_default p q x (default m y t i z) = omega (arith, token_lt 61 [] p m t, value_lt (IsInner 256) (inner_lt 256) m q y i)
behind_default p q x (without n e z) = rw e (omega arith)

-- behind a parameter less is left
pub behind_parameter : (kind : ParameterKind) (p q : Place) (x : AstParameter) → IsParameter kind p q x → length q.rest < length p.rest
behind_parameter kind p q x (parameter m n export name d i j k z) =
    omega (arith, behind_maybe (codes "$") p m export i, name_lt m n name j, behind_default n q d k)

-- behind an argument of a dependency
behind_value : (p q : Place) (x : Expr) → IsDependencyValue p q x → length q.rest < length p.rest
behind_value p q x (n, i) = behind_expr p q x i

-- behind a dependency
pub behind_dependency : (p q : Place) (x : AstDependency) → IsDependency p q x → length q.rest < length p.rest
behind_dependency p q x (bare path i z) = behind_path p q path i
behind_dependency p q x (grouped m n o path xs t i are u z) =
    omega (arith, token_lt 40 [] p m t, behind_path m n path i, are_le IsDependencyValue behind_value n o xs are, token_lt 41 [] o q u)

-- behind a letter
behind_letter : (p q : Place) (x : List ℕ) → IsLetter p q x → length q.rest < length p.rest
behind_letter p q x (braces t b e z) = rw e (behind_shorter 123 (123 ∷ 123 ∷ 123 ∷ []) p b)
behind_letter p q x (itself c t b f e z) = rw e (first_lt p c f)

-- behind letters that end where no text stands
behind_letters : (p q : Place) (letters : List (List ℕ)) → is_text p ≡ true → AreMany IsLetter p q letters → is_text q ≡ false → length q.rest < length p.rest
behind_letters p q [] t e n = absurd (false≢true (sym n ∙ (ap is_text e ∙ t)))
behind_letters p q (x ∷ xs) t (m, i, are) n = omega (arith, behind_letter p m x i, are_le IsLetter behind_letter m q xs are)

-- behind a fragment
pub behind_fragment : (p q : Place) (x : Fragment) → IsFragment p q x → length q.rest < length p.rest
behind_fragment p q x (text letters t are n z) = behind_letters p q letters t are n
behind_fragment p q x (value m n y o t i b e z) = rw e (omega (arith, token_lt 123 (123 ∷ []) p m t, behind_expr m n y i, behind_le (codes "}}") n))

-- ---- over what is read

-- an expression takes a character
pub expr_shorter : (p q : Place) (x : Expr) → item.expr p ≡ Ok (x, q) → length q.rest < length p.rest
expr_shorter p q x h = behind_expr p q x (expr_ok p q x h)

-- a parameter takes a character
pub parameter_lt : (kind : ParameterKind) (p q : Place) (x : AstParameter) → item.parameter kind p ≡ Ok (x, q) → length q.rest < length p.rest
parameter_lt kind p q x h = behind_parameter kind p q x (parameter_ok kind p q x h)

-- a dependency takes a character
pub dependency_lt : (p q : Place) (x : AstDependency) → item.dependency p ≡ Ok (x, q) → length q.rest < length p.rest
dependency_lt p q x h = behind_dependency p q x (dependency_ok p q x h)

-- a letter takes a character
pub letter_lt : (p q : Place) (x : List ℕ) → is_text p ≡ true → item.letter p ≡ Ok (x, q) → length q.rest < length p.rest
letter_lt p q x m h = behind_letter p q x (letter_ok p q x m h)

-- a fragment takes a character
pub fragment_lt : (p q : Place) (x : Fragment) → item.line_goes_on p ≡ true → item.fragment_at p ≡ Ok (x, q) → length q.rest < length p.rest
fragment_lt p q x m h = behind_fragment p q x (fragment_ok p q x m h)
