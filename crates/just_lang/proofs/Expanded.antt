-- An expression names what it does with its strings expanded.
use Rattle.std.proofs.Common.{◌≡◌, ℕ, List, ◌++◌, Option, Some, None, sym, ap, ◌∙◌, subst}
use Rattle.just_lang_syntax.specs.declared.ast.Expr.{Expr}
use Rattle.just_lang_syntax.specs.declared.ast.Expr.TheOpen.{Expr-F}
use Rattle.just_lang_syntax.specs.declared.ast.Expr.TheViews.{roll-Expr}
use Rattle.just_lang_syntax.specs.declared.ast.Expr.TheFolds.{fold-roll-Expr, ind-Expr, map-Expr}
use Rattle.just_lang_syntax.specs.declared.ast.Name.{Name}
use Rattle.just_lang_syntax.specs.declared.ast.StringLiteral.{StringLiteral}
use Rattle.just_lang_names.specs.NamesUsed.{names_of_expr, names_of_parts}
use Rattle.just_lang_shapes.specs.Expansions.{expanded_expr, expanded_step, expanded_literal}

two : (a b c d : List Name) → a ≡ c → b ≡ d → a ++ b ≡ c ++ d
two a b c d h k = ap (λ (xs : List Name). xs ++ b) h ∙ ap (λ (xs : List Name). c ++ xs) k

module _ (text_of : StringLiteral → Option (List ℕ)) where
  abbrev Agree : Expr → Type 0
  Agree x = names_of_expr (expanded_expr text_of x) ≡ names_of_expr x

  abbrev Both : Type 0
  Both = (x : Expr) × Agree x

  abbrev parts : Expr-F Expr → List Name
  parts z = names_of_parts (map-Expr Expr (List Name) names_of_expr z)

  agree_by : (z : Expr-F Expr) → names_of_expr (expanded_step text_of (map-Expr Expr Expr (expanded_expr text_of) z)) ≡ parts z → Agree (roll-Expr z)
  agree_by z h = ap names_of_expr (fold-roll-Expr Expr (expanded_step text_of) z) ∙ h ∙ sym (fold-roll-Expr (List Name) names_of_parts z)

  rolled : (z : Expr-F Expr) → names_of_expr (roll-Expr z) ≡ parts z
  rolled z = fold-roll-Expr (List Name) names_of_parts z

  abbrev made : Expr → Expr
  made x = expanded_expr text_of x

  agree_layer : (y : Expr-F Both) → Agree (roll-Expr (map-Expr Both Expr (λ e. e.0) y))
  unfolding roll-Expr denote.Hole.Carrier.roll
  agree_layer (Expr-F.If a c b d chained x) =
      agree_by (Expr-F.If a.0 c b.0 d.0 chained x.0)
      (rolled (Expr-F.If (made a.0) c (made b.0) (made d.0) chained (made x.0))
      ∙ two (names_of_expr (made a.0)) (names_of_expr (made b.0) ++ (names_of_expr (made d.0) ++ names_of_expr (made x.0))) (names_of_expr a.0) (names_of_expr b.0 ++ (names_of_expr d.0 ++ names_of_expr x.0)) a.1
      (two (names_of_expr (made b.0)) (names_of_expr (made d.0) ++ names_of_expr (made x.0)) (names_of_expr b.0) (names_of_expr d.0 ++ names_of_expr x.0) b.1
      (two (names_of_expr (made d.0)) (names_of_expr (made x.0)) (names_of_expr d.0) (names_of_expr x.0) d.1 x.1)))
  agree_layer (Expr-F.Root a) = agree_by (Expr-F.Root a.0) (rolled (Expr-F.Root (made a.0)) ∙ a.1)
  agree_layer (Expr-F.Join a b) =
      agree_by (Expr-F.Join a.0 b.0) (rolled (Expr-F.Join (made a.0) (made b.0)) ∙ two (names_of_expr (made a.0)) (names_of_expr (made b.0)) (names_of_expr a.0) (names_of_expr b.0) a.1 b.1)
  agree_layer (Expr-F.Concat a b) =
      agree_by (Expr-F.Concat a.0 b.0) (rolled (Expr-F.Concat (made a.0) (made b.0)) ∙ two (names_of_expr (made a.0)) (names_of_expr (made b.0)) (names_of_expr a.0) (names_of_expr b.0) a.1 b.1)
  agree_layer (Expr-F.Literal s) = agree_by (Expr-F.Literal s) (rolled (Expr-F.Literal (expanded_literal text_of s)))
  agree_layer (Expr-F.Variable name) = agree_by (Expr-F.Variable name) (rolled (Expr-F.Variable name))
  agree_layer (Expr-F.Group a) = agree_by (Expr-F.Group a.0) (rolled (Expr-F.Group (made a.0)) ∙ a.1)
  agree_layer (Expr-F.Env line column key None) = agree_by (Expr-F.Env line column key.0 None) (rolled (Expr-F.Env line column (made key.0) None) ∙ key.1)
  agree_layer (Expr-F.Env line column key (Some d)) =
      agree_by (Expr-F.Env line column key.0 (Some d.0))
      (rolled (Expr-F.Env line column (made key.0) (Some (made d.0))) ∙ two (names_of_expr (made key.0)) (names_of_expr (made d.0)) (names_of_expr key.0) (names_of_expr d.0) key.1 d.1)

  pub names_stay : (x : Expr) → names_of_expr (expanded_expr text_of x) ≡ names_of_expr x
  names_stay = ind-Expr Agree (λ x y is. subst (λ z. Agree (roll-Expr z)) is (agree_layer y))
