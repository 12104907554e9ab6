-- The value of an expression depends on the names in it alone.
use Rattle.std.proofs.Common.{◌≡◌, ℕ, inl, List, [], ◌++◌, Option, Some, None, codes, refl, sym, ap, ◌∙◌, subst}
use Rattle.std.specs.Prelude.{if◌then◌else◌}
use Rattle.just_lang_syntax.specs.declared.ast.Comparison.{Comparison}
use Rattle.just_lang_syntax.specs.declared.ast.Expr.{Expr}
use Rattle.just_lang_syntax.specs.declared.ast.Expr.TheOpen.{Expr-F}
use Rattle.just_lang_syntax.specs.declared.ast.Expr.TheViews.{roll-Expr}
use Rattle.just_lang_syntax.specs.declared.ast.Expr.TheFolds.{fold-roll-Expr, ind-Expr, map-Expr}
use Rattle.just_eval_closure.proofs.Items.{In}
use Rattle.just_eval_closure.specs.Values.{Valued, value, value_step, with_text, compares, rooted_value, joined_value, env_value}
use Rattle.just_eval.specs.Uses.{names_in, names_step}
use Rattle.just_eval.proofs.Lists.{in_left, in_right}

-- what an `if` gives, and what `env`
abbrev branch : Comparison → Valued → Valued → Valued → Valued → Valued
branch c l r x y = with_text l (λ s. with_text r (λ t. if compares c s t then x else y))

same_branch : (c : Comparison) (l l' r r' x x' y y' : Valued) → l ≡ l' → r ≡ r' → x ≡ x' → y ≡ y' → branch c l r x y ≡ branch c l' r' x' y'
same_branch c l l' r r' x x' y y' e f g h = ap (λ v. branch c v r x y) e ∙ ap (λ v. branch c l' v x y) f ∙ ap (λ v. branch c l' r' v y) g ∙ ap (λ v. branch c l' r' x' v) h

same_joined : (between : List ℕ) (l l' r r' : Valued) → l ≡ l' → r ≡ r' → joined_value l between r ≡ joined_value l' between r'
same_joined between l l' r r' e f = ap (λ v. joined_value v between r) e ∙ ap (λ v. joined_value l' between v) f

module _ (names others : List ℕ → Valued) (env : List ℕ → Option (List ℕ)) where
  -- all names in the expression mean the same
  abbrev Same : List (List ℕ) → Type 0
  Same ns = (n : List ℕ) → In n ns → names n ≡ others n

  -- both give the same value where they agree on the names in the expression
  abbrev Agree : Expr → Type 0
  Agree x = Same (names_in x) → value names env x ≡ value others env x

  abbrev Both : Type 0
  Both = (x : Expr) × Agree x

  same_in : (z : Expr-F Expr) → Same (names_in (roll-Expr z)) → Same (names_step (map-Expr Expr (List (List ℕ)) names_in z))
  same_in z same n i = same n (subst (λ ns. In n ns) (sym (fold-roll-Expr (List (List ℕ)) names_step z)) i)

  -- the value of a layer, where the steps give the same
  agree_by : (z : Expr-F Expr) → (Same (names_step (map-Expr Expr (List (List ℕ)) names_in z)) → value_step names env (map-Expr Expr Valued (value names env) z) ≡ value_step others env (map-Expr Expr Valued (value others env) z)) → Agree (roll-Expr z)
  agree_by z steps = λ same. fold-roll-Expr Valued (value_step names env) z ∙ steps (same_in z same) ∙ sym (fold-roll-Expr Valued (value_step others env) z)

  left_of : (xs ys : List (List ℕ)) → Same (xs ++ ys) → Same xs
  left_of xs ys same n i = same n (in_left n xs ys i)

  right_of : (xs ys : List (List ℕ)) → Same (xs ++ ys) → Same ys
  right_of xs ys same n i = same n (in_right n xs ys i)

  abbrev asked : Valued → Option Valued → Valued
  asked key default = with_text key (λ name. env_value name (env name) default)

  agree_layer : (y : Expr-F Both) → Agree (roll-Expr (map-Expr Both Expr (λ e. e.0) y))
  agree_layer (Expr-F.If a c b d chained x) =
      agree_by (Expr-F.If a.0 c b.0 d.0 chained x.0) (λ same.
      let rest = right_of (names_in a.0) (names_in b.0 ++ (names_in d.0 ++ names_in x.0)) same in
      let blocks = right_of (names_in b.0) (names_in d.0 ++ names_in x.0) rest in
      same_branch c (value names env a.0) (value others env a.0) (value names env b.0) (value others env b.0) (value names env d.0) (value others env d.0) (value names env x.0) (value others env x.0)
      (a.1 (left_of (names_in a.0) (names_in b.0 ++ (names_in d.0 ++ names_in x.0)) same)) (b.1 (left_of (names_in b.0) (names_in d.0 ++ names_in x.0) rest)) (d.1 (left_of (names_in d.0) (names_in x.0) blocks)) (x.1 (right_of (names_in d.0) (names_in x.0) blocks)))
  agree_layer (Expr-F.Root a) = agree_by (Expr-F.Root a.0) (λ same. ap (λ v. rooted_value v) (a.1 same))
  agree_layer (Expr-F.Join a b) =
      agree_by (Expr-F.Join a.0 b.0) (λ same. same_joined (codes "/") (value names env a.0) (value others env a.0) (value names env b.0) (value others env b.0) (a.1 (left_of (names_in a.0) (names_in b.0) same)) (b.1 (right_of (names_in a.0) (names_in b.0) same)))
  agree_layer (Expr-F.Concat a b) =
      agree_by (Expr-F.Concat a.0 b.0) (λ same. same_joined [] (value names env a.0) (value others env a.0) (value names env b.0) (value others env b.0) (a.1 (left_of (names_in a.0) (names_in b.0) same)) (b.1 (right_of (names_in a.0) (names_in b.0) same)))
  agree_layer (Expr-F.Literal s) = agree_by (Expr-F.Literal s) (λ same. refl)
  agree_layer (Expr-F.Variable name) = agree_by (Expr-F.Variable name) (λ same. same name.text (inl refl))
  agree_layer (Expr-F.Group a) = agree_by (Expr-F.Group a.0) (λ same. a.1 same)
  agree_layer (Expr-F.Env line column key None) =
      agree_by (Expr-F.Env line column key.0 None) (λ same. ap (λ v. asked v None) (key.1 (left_of (names_in key.0) [] same)))
  agree_layer (Expr-F.Env line column key (Some d)) =
      agree_by (Expr-F.Env line column key.0 (Some d.0)) (λ same.
      ap (λ v. asked v (Some (value names env d.0))) (key.1 (left_of (names_in key.0) (names_in d.0) same))
      ∙ ap (λ v. asked (value others env key.0) (Some v)) (d.1 (right_of (names_in key.0) (names_in d.0) same)))

  pub agree : (x : Expr) → ((n : List ℕ) → In n (names_in x) → names n ≡ others n) → value names env x ≡ value others env x
  agree = ind-Expr Agree (λ x y is. subst (λ z. Agree (roll-Expr z)) is (agree_layer y))
