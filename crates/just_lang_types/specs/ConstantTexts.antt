-- The texts of constant expressions: those of strings, constants, `+`, `/`, `if` and parentheses.
use Rattle.std.specs.Prelude.{ℕ, Bool, not, if◌then◌else◌, List, ◌∷◌, ◌++◌, Option, Some, None, option_map, bytes_eq, codes}
use Rattle.just_lang_syntax.specs.declared.ast.StringLiteral.{StringLiteral}
use Rattle.just_lang_syntax.specs.declared.ast.Comparison.{Comparison}
use Rattle.just_lang_syntax.specs.declared.ast.Comparison.TheVariants.{Equal, Unequal}
use Rattle.just_lang_syntax.specs.declared.ast.Expr.{Expr}
use Rattle.just_lang_syntax.specs.declared.ast.Expr.TheOpen.{Expr-F}
use Rattle.just_lang_syntax.specs.declared.ast.Expr.TheFolds.{fold-Expr}
use Rattle.just_lang_types.specs.Constants.{constant_of}

abbrev pub is_comparison : Comparison → List ℕ → List ℕ → Bool
is_comparison Equal left right = bytes_eq left right
is_comparison Unequal left right = not (bytes_eq left right)

-- of two texts, what a function makes of them
abbrev pub with_both : {A : Type 0} → (List ℕ → List ℕ → Option A) → Option (List ℕ) → Option (List ℕ) → Option A
with_both f None second = None
with_both f (Some first) None = None
with_both f (Some first) (Some second) = f first second

-- the one or the other, by a condition on two texts
abbrev pub chosen : Comparison → Option (List ℕ) → Option (List ℕ) → Option (List ℕ) → Option (List ℕ) → Option (List ℕ)
chosen comparison left right consequent alternative = with_both (λ a b. if is_comparison comparison a b then consequent else alternative) left right

-- a text behind `/`
abbrev pub with_slash : Option (List ℕ) → Option (List ℕ)
with_slash inside = option_map (λ t. 47 ∷ t) inside

module _ (text_of : StringLiteral → Option (List ℕ)) where
  -- the text of an expression by those of its parts
  abbrev pub text_of_parts : Expr-F (Option (List ℕ)) → Option (List ℕ)
  text_of_parts (Expr-F.If left comparison right consequent chained alternative) =
      chosen comparison left right consequent alternative
  text_of_parts (Expr-F.Root inside) = with_slash inside
  text_of_parts (Expr-F.Join first second) = with_both (λ a b. Some (a ++ (codes "/" ++ b))) first second
  text_of_parts (Expr-F.Concat first second) = with_both (λ a b. Some (a ++ b)) first second
  text_of_parts (Expr-F.Literal x) = text_of x
  text_of_parts (Expr-F.Variable x) = constant_of x.text
  text_of_parts (Expr-F.Group inside) = inside
  text_of_parts (Expr-F.Env line column key default) = None

  -- the text of a constant expression; none where it isn't constant, or a string in it has none
  abbrev pub const_text : Expr → Option (List ℕ)
  const_text = fold-Expr (Option (List ℕ)) text_of_parts
