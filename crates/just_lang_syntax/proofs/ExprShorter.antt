-- Expressions take characters.
use Rattle.std.proofs.Common.{◌≡◌, ℕ, zero, suc, ◌<◌, ◌≤◌, Bool, true, length, [], ◌∷◌, Option, Some, None, refl, sym, ap, ◌∙◌, arith}
use Rattle.just_lang_read.specs.Place.{Place, Rule, next, past, starts}
use Rattle.just_lang_read.proofs.Laws.{past_le, next_shorter, past_next, starts_with, starts_at}
use Rattle.just_lang_syntax.specs.declared.ast.Name.{Name}
use Rattle.just_lang_syntax.specs.declared.ast.Comparison.{Comparison}
use Rattle.just_lang_syntax.specs.declared.ast.Expr.{Expr}
use Rattle.just_lang_read.specs.Characters.{is_blank, begins_name, in_name}
use Rattle.just_lang_syntax.specs.Places.{IsName}
use Rattle.just_lang_syntax.specs.Exprs.{IsComparison, IsDefault, IsValue, IsBlock, IsOtherwise, IsLevel, IsInner}
use Rattle.just_lang_syntax.specs.Exprs.IsComparison.{equal, unequal}
use Rattle.just_lang_syntax.specs.Exprs.IsValue.{literal, group, env, variable}
use Rattle.just_lang_syntax.specs.Exprs.IsBlock.{block}
use Rattle.just_lang_syntax.specs.Exprs.IsOtherwise.{last, further}
use Rattle.just_lang_syntax.specs.Exprs.IsLevel.{conditional, root, value, joined, concatenated}
use Rattle.just_lang_syntax.proofs.Tokens.{token_lt, word_lt}
use Rattle.just_lang_syntax.proofs.StringLaws.{string_lt}

-- what begins a name may stand in one
in_name_of : (c : ℕ) → begins_name c ≡ true → in_name c ≡ true
in_name_of c h = rw h refl

-- a name takes a character
pub name_lt : (p q : Place) (x : Name) → IsName p q x → length q.rest < length p.rest
name_lt p q x (b, e, z) =
    let (c, f, t) = starts_with begins_name p b in
    let i : starts in_name p ≡ true = starts_at in_name p c f ∙ in_name_of c t in
    let k : past in_name p ≡ past in_name (next p) = sym (past_next in_name p i) in
    rw e (omega (arith, past_le is_blank (past in_name p), past_le in_name (next p), next_shorter begins_name p b, ap (λ (r : Place). length r.rest) k))

-- a comparison takes a character
comparison_lt : (p q : Place) (x : Comparison) → IsComparison p q x → length q.rest < length p.rest
comparison_lt p q x (equal t z) = token_lt 61 (61 ∷ []) p q t
comparison_lt p q x (unequal t z) = token_lt 33 (61 ∷ []) p q t

module _ (Inner : Rule Expr) (less : (p q : Place) (x : Expr) → Inner p q x → length q.rest < length p.rest) where
  -- a second argument of `env` takes nothing back
  default_le : (p q : Place) (x : Option Expr) → IsDefault Inner p q x → length q.rest ≤ length p.rest
  default_le p q None (n, e) = rw e (omega arith)
  default_le p q (Some x) (m, t, i) = omega (arith, token_lt 44 [] p m t, less m q x i)

  -- a value takes a character
  pub value_lt : (p q : Place) (x : Expr) → IsValue Inner p q x → length q.rest < length p.rest
  value_lt p q x (literal s i z) = string_lt p q s i
  value_lt p q x (group m n y t i u z) = omega (arith, token_lt 40 [] p m t, less m n y i, token_lt 41 [] n q u)
  value_lt p q x (env m n o r key d w t i k u z) =
      omega (arith, word_lt 101 (110 ∷ 118 ∷ []) p m w, token_lt 40 [] m n t, less n o key i, default_le o r d k, token_lt 41 [] r q u)
  value_lt p q x (variable n s c i z) = name_lt p q n i

  -- a block takes a character
  block_lt : (p q : Place) (x : Expr) → IsBlock Inner p q x → length q.rest < length p.rest
  block_lt p q x (block m n t i u) = omega (arith, token_lt 123 [] p m t, less m n x i, token_lt 125 [] n q u)

  -- what follows `else` takes a character
  otherwise_lt : (p q : Place) (chained : Bool) (x : Expr) → IsOtherwise Inner p q chained x → length q.rest < length p.rest
  otherwise_lt p q chained x (last b i z) = block_lt p q x i
  otherwise_lt p q chained x (further b i z) = less p q x i

  -- an expression takes a character, if those inside it do
  pub level_lt : (p q : Place) (x : Expr) → IsLevel Inner p q x → length q.rest < length p.rest
  level_lt p q x (conditional m n o r s t left right consequent alternative c chained b i l k g y w a z) =
      omega (
        arith,
        token_lt 105 (102 ∷ []) p m i,
        less m n left l,
        comparison_lt n o c k,
        less o r right g,
        block_lt r s consequent y,
        word_lt 101 (108 ∷ 115 ∷ 101 ∷ []) s t w,
        otherwise_lt t q chained alternative a,
      )
  level_lt p q x (root m y t i z) = omega (arith, token_lt 47 [] p m t, less m q y i)
  level_lt p q x (value b v k l) = value_lt p q x v
  level_lt p q x (joined m n a c b v t i z) = omega (arith, value_lt p m a v, token_lt 47 [] m n t, less n q c i)
  level_lt p q x (concatenated m n a c b v t i z) = omega (arith, value_lt p m a v, token_lt 43 [] m n t, less n q c i)

-- an expression inside another one takes a character
pub inner_lt : (left : ℕ) (p q : Place) (x : Expr) → IsInner left p q x → length q.rest < length p.rest
unfolding IsInner
inner_lt zero p q x i = absurd i
inner_lt (suc left) p q x i = level_lt (IsInner left) (inner_lt left) p q x i
