-- Expressions with their strings expanded, by those inside them.
use Rattle.std.proofs.Common.{◌≡◌, ℕ, Bool, List, sym, ap, ◌∙◌}
use Rattle.std.specs.Prelude.{Option, Some}
use Rattle.just_lang_syntax.specs.declared.ast.Comparison.{Comparison}
use Rattle.just_lang_syntax.specs.declared.ast.StringLiteral.{StringLiteral}
use Rattle.just_lang_syntax.specs.declared.ast.Expr.{Expr}
use Rattle.just_lang_syntax.specs.declared.ast.Expr.TheVariants as e
use Rattle.just_lang_syntax.specs.declared.ast.Expr.TheOpen.{Expr-F}
use Rattle.just_lang_syntax.specs.declared.ast.Expr.TheFolds.{fold-roll-Expr}
use Rattle.just_lang_shapes.specs.Expansions.{expanded_step, expanded_expr}

module _ (text_of : StringLiteral → Option (List ℕ)) where
  expanded_if : (a : Expr) (c : Comparison) (b d : Expr) (chained : Bool) (x : Expr)
      → expanded_expr text_of (e.If a c b d chained x) ≡ e.If (expanded_expr text_of a) c (expanded_expr text_of b) (expanded_expr text_of d) chained (expanded_expr text_of x)
  expanded_if a c b d chained x = ap (expanded_expr text_of) (sym (e.rolls-If a c b d chained x)) ∙ fold-roll-Expr Expr (expanded_step text_of) (Expr-F.If a c b d chained x)

  expanded_join : (a b : Expr) → expanded_expr text_of (e.Join a b) ≡ e.Join (expanded_expr text_of a) (expanded_expr text_of b)
  expanded_join a b = ap (expanded_expr text_of) (sym (e.rolls-Join a b)) ∙ fold-roll-Expr Expr (expanded_step text_of) (Expr-F.Join a b)

  expanded_concat : (a b : Expr) → expanded_expr text_of (e.Concat a b) ≡ e.Concat (expanded_expr text_of a) (expanded_expr text_of b)
  expanded_concat a b = ap (expanded_expr text_of) (sym (e.rolls-Concat a b)) ∙ fold-roll-Expr Expr (expanded_step text_of) (Expr-F.Concat a b)

  expanded_env : (l c : ℕ) (k d : Expr) → expanded_expr text_of (e.Env l c k (Some d)) ≡ e.Env l c (expanded_expr text_of k) (Some (expanded_expr text_of d))
  expanded_env l c k d = ap (expanded_expr text_of) (sym (e.rolls-Env l c k (Some d))) ∙ fold-roll-Expr Expr (expanded_step text_of) (Expr-F.Env l c k (Some d))

  -- the same, by what was made of those inside
  pub if_of : (x a b d y : Expr) (c : Comparison) (chained : Bool) (a' b' d' y' : Expr) → x ≡ e.If a c b d chained y
      → a' ≡ expanded_expr text_of a → b' ≡ expanded_expr text_of b → d' ≡ expanded_expr text_of d → y' ≡ expanded_expr text_of y → e.If a' c b' d' chained y' ≡ expanded_expr text_of x
  if_of x a b d y c chained a' b' d' y' is ha hb hd hy = (λ i. e.If (ha i) c (hb i) (hd i) chained (hy i)) ∙ sym (expanded_if a c b d chained y) ∙ ap (expanded_expr text_of) (sym is)

  pub join_of : (x a b a' b' : Expr) → x ≡ e.Join a b → a' ≡ expanded_expr text_of a → b' ≡ expanded_expr text_of b → e.Join a' b' ≡ expanded_expr text_of x
  join_of x a b a' b' is ha hb = (λ i. e.Join (ha i) (hb i)) ∙ sym (expanded_join a b) ∙ ap (expanded_expr text_of) (sym is)

  pub concat_of : (x a b a' b' : Expr) → x ≡ e.Concat a b → a' ≡ expanded_expr text_of a → b' ≡ expanded_expr text_of b → e.Concat a' b' ≡ expanded_expr text_of x
  concat_of x a b a' b' is ha hb = (λ i. e.Concat (ha i) (hb i)) ∙ sym (expanded_concat a b) ∙ ap (expanded_expr text_of) (sym is)

  pub env_of : (x : Expr) (l c : ℕ) (k d k' d' : Expr) → x ≡ e.Env l c k (Some d) → k' ≡ expanded_expr text_of k → d' ≡ expanded_expr text_of d → e.Env l c k' (Some d') ≡ expanded_expr text_of x
  env_of x l c k d k' d' is hk hd = (λ i. e.Env l c (hk i) (Some (hd i))) ∙ sym (expanded_env l c k d) ∙ ap (expanded_expr text_of) (sym is)
