-- Expressions: what the grammar says is read, so it is one.
use Rattle.std.proofs.Common.{◌≡◌, ℕ, zero, suc, Bool, true, false, [], ◌∷◌, Option, Some, None, Ok, codes, refl, sym, ap, ◌∙◌}
use Rattle.just_lang_read.specs.Place.{Place, Rule, begins}
use Rattle.just_lang_read.specs.Reader.{Reader, pure}
use Rattle.just_lang_read.proofs.Laws.{ok_value, ok_place}
use Rattle.just_lang_syntax.specs.declared.ast.Comparison.{Comparison}
use Rattle.just_lang_syntax.specs.declared.ast.Expr.{Expr}
use Rattle.just_lang_syntax.specs.declared.ast.Expr.TheVariants as e
use Rattle.just_lang_read.specs.Characters.{begins_name}
use Rattle.just_lang_read.specs.Lines.{behind_word, IsToken, IsWord}
use Rattle.just_lang_syntax.specs.Exprs.{begins_condition, IsComparison, IsDefault, IsValue, IsBlock, IsOtherwise, IsLevel, IsInner, IsExpr}
use Rattle.just_lang_syntax.specs.Exprs.IsComparison.{equal, unequal}
use Rattle.just_lang_syntax.specs.Exprs.IsValue.{literal, group, env, variable}
use Rattle.just_lang_syntax.specs.Exprs.IsBlock.{block}
use Rattle.just_lang_syntax.specs.Exprs.IsOtherwise.{last, further}
use Rattle.just_lang_syntax.specs.Exprs.IsLevel.{conditional, root, value, joined, concatenated}
use Rattle.just_lang_syntax.specs.Readers as reader
use Rattle.just_lang_read.proofs.Laws.{begins_first, begins_starts, begins_other, starts_other}
use Rattle.just_lang_syntax.proofs.Beginnings.{no_string, string_other, word_behind, word_begins}
use Rattle.just_lang_syntax.proofs.Tokens.{token_again, word_again, name_again}
use Rattle.just_lang_syntax.proofs.StringLaws.{string_again, string_begins}
use Rattle.just_lang_syntax.proofs.ExprSound.{level_ok, inner_ok}

-- a comparison that stands there is read
pub comparison_again : (p q : Place) (x : Comparison) → IsComparison p q x → reader.comparison p ≡ Ok (x, q)
unfolding reader.comparison
comparison_again p q x (equal t z) = rw (t.0, token_again (codes "==") p q t, z) refl
comparison_again p q x (unequal t z) =
    rw (begins_other 33 61 (61 ∷ []) p (begins_first 33 (61 ∷ []) p t.0) refl, token_again (codes "!=") p q t, z) refl

module _ (inner : Reader Expr) (Inner : Rule Expr) (again : (p q : Place) (x : Expr) → Inner p q x → inner p ≡ Ok (x, q)) where
  -- a second argument of `env` that stands there is read
  default_again : (p q : Place) (x : Option Expr) → IsDefault Inner p q x → reader.default inner p ≡ Ok (x, q)
  unfolding reader.default
  default_again p q None (n, e) = rw (n, e) refl
  default_again p q (Some x) (m, t, i) = rw (t.0, token_again (codes ",") p m t, again m q x i) refl

  -- a call of `env` that stands there is read
  env_again : (p m n o r q : Place) (key : Expr) (d : Option Expr) → IsWord (codes "env") p m → IsToken (codes "(") m n → Inner n o key → IsDefault Inner o r d
      → IsToken (codes ")") r q → reader.env inner p ≡ Ok (e.Env p.line p.column key d, q)
  unfolding reader.env
  env_again p m n o r q key d w t i k u =
      rw (word_again (codes "env") p m w, token_again (codes "(") m n t, again n o key i, default_again o r d k, token_again (codes ")") r q u) refl

  -- an expression in parentheses that stands there is read
  group_again : (p m n q : Place) (y : Expr) → IsToken (codes "(") p m → Inner m n y → IsToken (codes ")") n q → reader.group inner p ≡ Ok (e.Group y, q)
  unfolding reader.group
  group_again p m n q y t i u = rw (token_again (codes "(") p m t, again m n y i, token_again (codes ")") n q u) refl

  -- a value that stands there is read
  pub value_again : (p q : Place) (x : Expr) → IsValue Inner p q x → reader.value inner p ≡ Ok (x, q)
  unfolding reader.value
  value_again p q x (literal s i z) = rw (string_begins p q s i, string_again p q s i, z) refl
  value_again p q x (group m n y t i u z) = rw (no_string 40 [] p t.0 refl refl, t.0, group_again p m n q y t i u, z) refl
  value_again p q x (env m n o r key d w t i k u z) =
      let b : begins (codes "env") p ≡ true = word_begins (codes "env") p m w in
      let call : begins (codes "(") (behind_word p) ≡ true = ap (begins (codes "(")) (word_behind (codes "env") p m refl w) ∙ t.0 in
      rw (
        no_string 101 (110 ∷ 118 ∷ []) p b refl refl,
        begins_other 101 40 [] p (begins_first 101 (110 ∷ 118 ∷ []) p b) refl,
        begins_starts begins_name 101 (110 ∷ 118 ∷ []) p b,
        call,
        env_again p m n o r q key d w t i k u,
        z,
      ) refl
  value_again p q x (variable n s c i z) = rw (s, starts_other begins_name 40 [] p i.0 refl, c, name_again p q n i, z) refl

  -- a block that stands there is read
  pub block_again : (p q : Place) (x : Expr) → IsBlock Inner p q x → reader.block inner p ≡ Ok (x, q)
  unfolding reader.block
  block_again p q x (block m n t i u) = rw (token_again (codes "{") p m t, again m n x i, token_again (codes "}") n q u) refl

  -- what stands behind `else` is read
  otherwise_again : (p q : Place) (chained : Bool) (x : Expr) → IsOtherwise Inner p q chained x → reader.otherwise inner p ≡ Ok ((chained, x), q)
  unfolding reader.otherwise
  otherwise_again p q chained x (last b i z) = rw (b, block_again p q x i, z) refl
  otherwise_again p q chained x (further b i z) = rw (b, again p q x i, z) refl

  -- a condition that stands there is read
  pub condition_again : (p m n q : Place) (a b : Expr) (c : Comparison) → Inner p m a → IsComparison m n c → Inner n q b → reader.condition inner p ≡ Ok ((a, c, b), q)
  unfolding reader.condition
  condition_again p m n q a b c i k j = rw (again p m a i, comparison_again m n c k, again n q b j) refl

  -- a conditional that stands there is read
  conditional_again : (p m n o r s t q : Place) (left right consequent alternative : Expr) (c : Comparison) (chained : Bool)
      → IsToken (codes "if") p m → Inner m n left → IsComparison n o c → Inner o r right → IsBlock Inner r s consequent → IsWord (codes "else") s t
      → IsOtherwise Inner t q chained alternative → reader.conditional inner p ≡ Ok (e.If left c right consequent chained alternative, q)
  unfolding reader.conditional
  conditional_again p m n o r s t q left right consequent alternative c chained i l k g y w a =
      rw (
        token_again (codes "if") p m i,
        condition_again m n o r left right c l k g,
        block_again r s consequent y,
        word_again (codes "else") s t w,
        otherwise_again t q chained alternative a,
      ) refl

  -- a slash and an expression that stand there are read
  root_again : (p m q : Place) (y : Expr) → IsToken (codes "/") p m → Inner m q y → reader.root inner p ≡ Ok (e.Root y, q)
  unfolding reader.root
  root_again p m q y t i = rw (token_again (codes "/") p m t, again m q y i) refl

  -- no value begins with a slash
  pub value_begins : (p q : Place) (x : Expr) → IsValue Inner p q x → begins (codes "/") p ≡ false
  value_begins p q x (literal s i z) = string_other 47 [] p (string_begins p q s i) refl refl
  value_begins p q x (group m n y t i u z) = begins_other 40 47 [] p (begins_first 40 [] p t.0) refl
  value_begins p q x (env m n o r key d w t i k u z) =
      begins_other 101 47 [] p (begins_first 101 (110 ∷ 118 ∷ []) p (word_begins (codes "env") p m w)) refl
  value_begins p q x (variable n s c i z) = starts_other begins_name 47 [] p i.0 refl

  -- no condition begins with a slash
  pub no_condition : (p : Place) → begins (codes "/") p ≡ true → begins_condition p ≡ false
  no_condition p h = rw (begins_other 47 105 (102 ∷ []) p (begins_first 47 [] p h) refl) refl

  -- behind a first value with no operator nothing is read
  tail_none : (a : Expr) (q : Place) → begins (codes "/") q ≡ false → begins (codes "+") q ≡ false → reader.tail inner a q ≡ Ok (a, q)
  unfolding reader.tail
  tail_none a q k l = rw (k, l) refl

  -- behind a first value a slash and an expression are read
  tail_slash : (a b : Expr) (m n q : Place) → IsToken (codes "/") m n → Inner n q b → reader.tail inner a m ≡ Ok (e.Join a b, q)
  unfolding reader.tail
  tail_slash a b m n q t i = rw (t.0, token_again (codes "/") m n t, again n q b i) refl

  -- behind a first value a plus and an expression are read
  tail_plus : (a b : Expr) (m n q : Place) → IsToken (codes "+") m n → Inner n q b → reader.tail inner a m ≡ Ok (e.Concat a b, q)
  unfolding reader.tail
  tail_plus a b m n q t i = rw (begins_other 43 47 [] m (begins_first 43 [] m t.0) refl, t.0, token_again (codes "+") m n t, again n q b i) refl

  -- an expression that stands there is read, if those inside it are
  pub level_again : (p q : Place) (x : Expr) → IsLevel Inner p q x → reader.level inner p ≡ Ok (x, q)
  unfolding reader.level
  level_again p q x (conditional m n o r s t left right consequent alternative c chained b i l k g y w a z) =
      rw (b, conditional_again p m n o r s t q left right consequent alternative c chained i l k g y w a, z) refl
  level_again p q x (root m y t i z) = rw (no_condition p t.0, t.0, root_again p m q y t i, z) refl
  level_again p q x (value b v k l) = rw (b, value_begins p q x v, value_again p q x v) (tail_none x q k l)
  level_again p q x (joined m n a c b v t i z) = rw (b, value_begins p m a v, value_again p m a v, z) (tail_slash a c m n q t i)
  level_again p q x (concatenated m n a c b v t i z) = rw (b, value_begins p m a v, value_again p m a v, z) (tail_plus a c m n q t i)

-- an expression that stands inside another one is read
pub inner_again : (left : ℕ) (p q : Place) (x : Expr) → IsInner left p q x → reader.inner left p ≡ Ok (x, q)
unfolding reader.inner IsInner
inner_again zero p q x i = absurd i
inner_again (suc left) p q x i = level_again (reader.inner left) (IsInner left) (inner_again left) p q x i

-- an expression that is read stands there
pub expr_ok : (p q : Place) (x : Expr) → reader.level (reader.inner 256) p ≡ Ok (x, q) → IsExpr p q x
expr_ok p q x h = level_ok (reader.inner 256) (IsInner 256) (inner_ok 256) p q x h

-- an expression that stands there is read
pub expr_again : (p q : Place) (x : Expr) → IsExpr p q x → reader.level (reader.inner 256) p ≡ Ok (x, q)
expr_again p q x i = level_again (reader.inner 256) (IsInner 256) (inner_again 256) p q x i

-- so one expression stands there, and ends at one place
pub expr_one : (p q r : Place) (x y : Expr) → IsExpr p q x → IsExpr p r y → (x ≡ y) × (q ≡ r)
expr_one p q r x y i j =
    let e : pure x q ≡ Ok (y, r) = sym (expr_again p q x i) ∙ expr_again p r y j in
    (ok_value x y q r e, ok_place x y q r e)
